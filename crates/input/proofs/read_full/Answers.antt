-- `input::read_full` meets its contract: what is read comes behind what was read before.
-- Assumes nothing.
use Rattle.lines.proofs.ReadLaws.{within, given}
use Rattle.input.proofs.read_full.Goals as goal

pub loop-size-preserved : goal.loop-size-preserved
loop-size-preserved g c =
    let i = c.loop-size.invariant in
    let e = c.in_ok-read.ensures in
    (within _ _ _ _ i.0 e.bound.0, given _ _ _ _ i.0 e.bound.0 _ _ _ i.1 e.bytes.0)
