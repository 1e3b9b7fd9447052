-- `run::answer::run_accepted` meets its contract: the line that states the count stands first, and leaves room for the rest.
-- Assumes nothing.
use Rattle.std.proofs.Common.{arith}
use Rattle.lines.specs.Line.{most_job_line}
use Rattle.lines.proofs.LineLaws.{job_line_le}
use Rattle.run.proofs.RunLaws.{front_stands, ready, job_stands}
use Rattle.run.proofs.answer.run_accepted.Goals as goal

pub run_all-requires : goal.run_all-requires
run_all-requires c =
    let room = c.requires.most_output_in_bounds in
    let put = c.job_line.ensures in
    let j = front_stands _ most_job_line _ _ _ _ (job_line_le _) (omega arith) room (put.value, put.room_after) c.end_of-place.ensures in
    ready _ c.requires.file_value _ _ _ c.reply_buffer-reply.ensures (omega (arith, room, j.0.same_size)) j.1

pub returns : goal.returns
returns c =
    let put = c.job_line.ensures in
    let j =
    front_stands _ most_job_line _ _ _ _ (job_line_le _) (omega arith) c.requires.most_output_in_bounds (put.value, put.room_after)
    c.end_of-place.ensures in
    job_stands _ c.requires.file_value _ _ _ _ _ _ _ _ c.count_requests.ensures c.blank_flash-flash.ensures c.blank_eeprom-eeprom.ensures
    j.0 c.run_all.ensures
