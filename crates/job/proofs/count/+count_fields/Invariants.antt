-- The measure: the bytes left.
use Rattle.std.proofs.Common.{◌-◌}
use Rattle.job.proofs.count.+count_fields.Given as goal

abbrev pub decreases-count_fields : goal.decreases-count_fields
decreases-count_fields l = l.end - l.at
