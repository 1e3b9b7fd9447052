-- `plugrun::turn::write_text` meets its contract: what stands before the answer, and then the answer.
-- Assumes nothing.
use native.Mathlib.Omega.{arith}
use lib.ListN.{take}
use lib.Seq.{length-take-le}
use Rattle.lines.proofs.RoomLaws.{joined}
use Rattle.plugrun.proofs.TurnLaws.{head_fits, head_stands, answer_fits}
use Rattle.plugrun.proofs.turn.write_text.Goals as goal

pub unwrap-head-requires : goal.unwrap-head-requires
unwrap-head-requires c =
    let line = c.head_line.ensures in
    head_fits _ _ _ _ _ _ c.requires.most_text_in_bounds (line.value, line.room_after)

pub put_answer-requires : goal.put_answer-requires
put_answer-requires c =
    let a = c.args.answer in
    let said = take a.length c.args.reply.now in
    let size = length-take-le a.length c.args.reply.now c.requires.length_in_bounds.0 in
    let line = c.head_line.ensures in
    answer_fits _ _ _ _ _ _ c.requires.most_text_in_bounds (line.value, line.room_after) _ c.unwrap-head.ensures a.outcome said
    (omega (arith, c.requires.length_in_bounds, size))

pub returns : goal.returns
returns c =
    let line = c.head_line.ensures in
    let head = head_stands _ _ _ _ _ _ c.requires.most_text_in_bounds (line.value, line.room_after) _ c.unwrap-head.ensures in
    rw (← c.word_of.ensures) (joined head c.put_answer.ensures)
