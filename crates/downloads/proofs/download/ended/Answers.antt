-- `downloads::download::ended` meets its contract.
-- Assumes nothing.
use borrow.Author.Tests.{eq-eqb, ne_eqb}
use Rattle.rules.proofs.DownloadLaws.{ends, ends_not}
use Rattle.downloads.proofs.download.ended.Goals as goal

pub returns-then-session-eq5 : goal.returns-then-session-eq5
returns-then-session-eq5 c = ends c.args.session _ _ (eq-eqb _ 5 c.if-session-eq5.true) c.quiet.ensures

pub returns : goal.returns
returns c = ends_not c.args.session _ _ (ne_eqb _ 5 c.if-session-eq5.false) c.stall.ensures
