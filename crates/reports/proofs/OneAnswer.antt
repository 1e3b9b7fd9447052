-- One permitted answer: two answers that meet the contract of a public function are equal.
-- `F.Post` is the contract of F as its code states it.
-- Assumes nothing.
use mathlib.Core.Path.{◌≡◌}
use Rattle.words.proofs.OneAnswer.{one}
use Rattle.reports.proofs.report.status_report.Reads as status_report

pub of_status_report : (κs : _) (a : _) (r r' : _) (s s' : _) → status_report.Post κs a r s → status_report.Post κs a r' s' → r ≡ r'
of_status_report κs a r r' s s' p q = one p q
