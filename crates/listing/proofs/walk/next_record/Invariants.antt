-- From `at` on come the records that come from the start on. The measure is the bytes left.
use Rattle.std.proofs.Common.{◌≡◌, ◌-◌, length}
use Rattle.listing.specs.Records.{records_from}
use Rattle.listing.proofs.walk.next_record.Given as goal

abbrev pub invariant-loop-at : goal.invariant-loop-at
invariant-loop-at l = records_from l.file l.fn.from ≡ records_from l.file l.at

abbrev pub decreases-loop-at : goal.decreases-loop-at
decreases-loop-at l = length l.file - l.at
