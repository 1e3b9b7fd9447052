-- The invariant: the walk from `at` on meets what the walk from the start on does. The measure is the bytes left.
use Rattle.std.proofs.Common.{length, ◌-◌, ◌≡◌}
use Rattle.job.specs.Walk.{walk}
use Rattle.job.proofs.walk.next_request.Given as goal

abbrev pub invariant-loop-at : goal.invariant-loop-at
invariant-loop-at l = walk l.file l.fn.from ≡ walk l.file l.at

abbrev pub decreases-loop-at : goal.decreases-loop-at
decreases-loop-at l = length l.file - l.at
