-- One permitted answer: two answers that meet the contract of a public function are equal.
-- `F.Post` is the contract of F as its code states it.
-- Assumes nothing.
use mathlib.Core.Path.{◌≡◌}
use Rattle.words.proofs.OneAnswer.{one}
use Rattle.record.proofs.reader.ReadError.number.Reads as read_error_number
use Rattle.record.proofs.writer.WriteError.number.Reads as write_error_number

pub of_read_error_number : (κs : _) (a : _) (r r' : _) (s s' : _) → read_error_number.Post κs a r s → read_error_number.Post κs a r' s' → r ≡ r'
of_read_error_number κs a r r' s s' p q = one p q

pub of_write_error_number : (κs : _) (a : _) (r r' : _) (s s' : _) → write_error_number.Post κs a r s → write_error_number.Post κs a r' s' → r ≡ r'
of_write_error_number κs a r r' s s' p q = one p q
