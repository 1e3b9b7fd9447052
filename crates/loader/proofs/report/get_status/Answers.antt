-- `loader::report::get_status` meets its contract.
-- Assumes nothing.
use Rattle.std.proofs.Common.{◌≡◌, ℕ, ◌≤◌, [], List, length, ap, ◌∙◌, arith}
use Rattle.words.specs.Words.{laid}
use Rattle.config.specs.declared.config.Config.{Config}
use Rattle.rules.specs.declared.session.Session.{Session}
use Rattle.rules.specs.declared.answer.Answer.{Answer}
use Rattle.rules.specs.declared.answer.Outcome.TheVariants.{Done}
use Rattle.rules.specs.Result.{answer, reply}
use Rattle.rules.specs.Requests.{get_status}
use Rattle.rules.specs.Answered.{bare, Replied}
use Rattle.rules.proofs.StatusLaws.{reply_laid}
use Rattle.reports.specs.Report.{status_report}
use Rattle.reports.specs.declared.report.Report.{Report}
use Rattle.loader.proofs.report.get_status.Goals as goal

told : (s : Session) (c : Config) (t : Report) (a : Answer) (p p' : List ℕ) → 1024 ≤ length p → t ≡ status_report s → p' ≡ laid 0 t.bytes p
    → a ≡ answer (reply c Done [] t.session) → Replied (get_status (bare s c)) (record a { length = 6 }) p' p
told s c t a p p' h e q r = record {
  answered = ap (λ (x : Answer). record x { length = 6 }) (r ∙ ap (λ (x : Report). answer (reply c Done [] x.session)) e);
  reply = reply_laid (status_report s).bytes p p' (omega arith) (q ∙ ap (λ (x : Report). laid 0 x.bytes p) e);
}

pub returns : goal.returns
returns c = told c.args.session _ _ _ _ _ c.requires c.status_report-report.ensures c.lay.ensures.memory_after c.quiet.ensures
