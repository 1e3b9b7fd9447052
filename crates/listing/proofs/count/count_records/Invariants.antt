-- What is counted and the records from `at` on are together the file's. The measure is the bytes left.
use Rattle.std.proofs.Common.{◌≡◌, ◌+◌, ◌-◌, ◌≤◌, length}
use Rattle.listing.specs.Records.{records_from}
use Rattle.listing.proofs.count.count_records.Given as goal

abbrev pub invariant-loop-span : goal.invariant-loop-span
invariant-loop-span l = (l.count + length (records_from l.file l.at) ≡ length (records_from l.file 0)) × (l.count ≤ l.at) × (l.at ≤ length l.file)

abbrev pub decreases-loop-span : goal.decreases-loop-span
decreases-loop-span l = length l.file - l.at
