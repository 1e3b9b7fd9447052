-- The invariant: all bytes from the start on before `from` are FFh. The measure is the bytes left.
use Rattle.std.proofs.Common.{◌-◌}
use Rattle.blank.specs.Blank.{Passed}
use Rattle.blank.proofs.search.first_used.Given as goal

abbrev pub invariant-loop-from : goal.invariant-loop-from
invariant-loop-from l = Passed l.fn.start.0 l.stop l.from l.flash

abbrev pub decreases-loop-from : goal.decreases-loop-from
decreases-loop-from l = l.stop - l.from
