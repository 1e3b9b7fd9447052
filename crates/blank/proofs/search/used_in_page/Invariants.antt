-- The invariant: either all bytes looked at so far are FFh, or all before the lowest find are, and it is not; and `lowest` is a byte.
use Rattle.std.proofs.Common.{◌≤◌}
use Rattle.blank.proofs.SearchLaws.{no_place, Lowest}
use Rattle.blank.proofs.search.used_in_page.Given as goal

abbrev pub invariant-loop-i : goal.invariant-loop-i
invariant-loop-i l = (l.lowest ≤ no_place) × Lowest l.from l.i l.lowest l.flash
