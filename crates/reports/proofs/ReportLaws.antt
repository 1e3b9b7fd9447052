-- The report is GETSTATUS's, of every board.
-- Assumes nothing.
use mathlib.Core.Path.{refl}
use Rattle.rules.specs.Requests.{respond}
use Rattle.reports.specs.Report.{StatusReported}

pub status_reported : StatusReported
unfolding respond
status_reported = record { bytes = λ b d. refl; session = λ b d. refl }
