-- One permitted answer: two answers that meet the contract of a public function are equal.
-- `F.Post` is the contract of F as its code states it.
-- Assumes nothing.
use mathlib.Core.Path.{◌≡◌}
use Rattle.words.proofs.OneAnswer.{one}
use Rattle.digits.proofs.table.digit_table.Reads as digit_table

pub of_digit_table : (κs : _) (a : _) (r r' : _) (s s' : _) → digit_table.Post κs a r s → digit_table.Post κs a r' s' → r ≡ r'
of_digit_table κs a r r' s s' p q = one p q
