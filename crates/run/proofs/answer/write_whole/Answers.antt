-- `run::answer::write_whole` meets its contract: by the verdict, the answer is the run or the refusal.
-- Assumes nothing.
use Rattle.std.proofs.Common.{arith, sym}
use Rattle.lines.specs.Line.{most_refused_line}
use Rattle.lines.proofs.LineLaws.{refused_line_le}
use Rattle.run.proofs.RunLaws.{front_stands, accepted_stands, refused_stands}
use Rattle.run.proofs.answer.write_whole.Goals as goal

pub returns-in-Ok : goal.returns-in-Ok
returns-in-Ok c = accepted_stands _ (sym c.in-Ok.ensures) _ _ _ c.run_accepted.ensures

pub returns-in-Err : goal.returns-in-Err
returns-in-Err c =
    let put = c.refused_line.ensures in
    let j =
    front_stands _ most_refused_line _ _ _ _ (refused_line_le _ _) (omega arith) c.requires (put.value, put.room_after) c.end_of.ensures in
    refused_stands _ _ _ _ _ (sym c.in-Err.ensures) (rw (← c.number.ensures) j.0)
