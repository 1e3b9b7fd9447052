-- GETSTATUS's report as the code has it. Assumes nothing: these are a definition and a statement.
use Rattle.std.specs.Prelude.{◌≡◌, List, ℕ}
use Rattle.config.specs.Config.{delivered_config}
use Rattle.rules.specs.declared.session.Session.{Session}
use Rattle.rules.specs.Result.{Board}
use Rattle.rules.specs.declared.request.Request.TheVariants.{GetStatus}
use Rattle.rules.specs.Requests.{get_status, respond}
use Rattle.rules.specs.Answered.{bare}
use Rattle.reports.specs.declared.report.Report.{Report}

-- what GETSTATUS sends and the session that it leaves, on any board: neither memories nor configuration are looked at
abbrev pub status_report : Session → Report
status_report s = let r = get_status (bare s delivered_config) in record { bytes = r.sent; session = r.session }

-- the same: GETSTATUS's own bytes and session, whatever else the board is
pub record StatusReported : Type 0 where
  pub bytes : (b : Board) (d : List ℕ) → (status_report b.session).bytes ≡ (respond b GetStatus d).sent
  pub session : (b : Board) (d : List ℕ) → (status_report b.session).session ≡ (respond b GetStatus d).session
