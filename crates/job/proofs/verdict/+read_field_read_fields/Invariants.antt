-- The invariant: what is the verdict on the fields from the place on is the verdict on those from the first place on. The measure of the calls:
-- bytes left and depth left, added.
use Rattle.std.proofs.Common.{◌+◌, ◌-◌, ◌≤◌}
use Rattle.job.specs.Verdict.{Verdict}
use Rattle.job.specs.Read.{ReadsFields}
use Rattle.job.proofs.verdict.+read_field_read_fields.Given as goal

abbrev pub decreases-read_field : goal.decreases-read_field
decreases-read_field l = (l.end - l.at.now) + (4 - l.depth)

abbrev pub decreases-read_fields : goal.decreases-read_fields
decreases-read_fields l = (l.end - l.at.now) + (5 - l.depth)

abbrev pub invariant-read_fields-loop-at : goal.invariant-read_fields-loop-at
invariant-read_fields-loop-at l =
    (l.fn.at ≤ l.at) × (l.at ≤ l.end) × ((v : Verdict) → ReadsFields v l.file l.at l.end l.depth → ReadsFields v l.file l.fn.at l.end l.depth)

abbrev pub decreases-read_fields-loop-at : goal.decreases-read_fields-loop-at
decreases-read_fields-loop-at l = l.end - l.at
