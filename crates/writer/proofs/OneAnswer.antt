-- One permitted answer: two answers, with the lent memories after them, that meet the contract of a public function are equal.
-- `F.Post` is the contract of F as its code states it.
-- Assumes nothing.
use mathlib.Core.Path.{◌≡◌}
use Rattle.words.proofs.OneAnswer.{one}
use Rattle.writer.proofs.write.WriteError.number.Reads as write_error_number
use Rattle.writer.proofs.write.written_number.Reads as written_number
use Rattle.writer.proofs.write.written_count.Reads as written_count
use Rattle.writer.proofs.write.write_command.Reads as write_command

pub of_written_number : (κs : _) (a : _) (r r' : _) (s s' : _) → written_number.Post κs a r s → written_number.Post κs a r' s' → r ≡ r'
of_written_number κs a r r' s s' p q = one p q

pub of_written_count : (κs : _) (a : _) (r r' : _) (s s' : _) → written_count.Post κs a r s → written_count.Post κs a r' s' → r ≡ r'
of_written_count κs a r r' s s' p q = one p q

pub of_write_command : (κs : _) (a : _) (r r' : _) (s s' : _) → write_command.Post κs a r s → write_command.Post κs a r' s'
    → (r ≡ r') × (s.1.1.1.0.now ≡ s'.1.1.1.0.now)
of_write_command κs a r r' s s' p q = (one p.0 q.0, one p.1 q.1)

pub of_write_error_number : (κs : _) (a : _) (r r' : _) (s s' : _) → write_error_number.Post κs a r s → write_error_number.Post κs a r' s' → r ≡ r'
of_write_error_number κs a r r' s s' p q = one p q
