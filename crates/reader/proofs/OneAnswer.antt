-- One permitted answer: two answers, with the lent memories after them, that meet the contract of a public function are equal.
-- `F.Post` is the contract of F as its code states it.
-- Assumes nothing.
use mathlib.Core.Path.{◌≡◌}
use Rattle.words.proofs.OneAnswer.{one}
use Rattle.reader.proofs.payload.fit_of.Reads as fit_of
use Rattle.reader.proofs.payload.judge.Reads as judge
use Rattle.reader.proofs.reader.read_command.Reads as read_command
use Rattle.reader.proofs.reader.reading_status.Reads as reading_status

pub of_fit_of : (κs : _) (a : _) (r r' : _) (s s' : _) → fit_of.Post κs a r s → fit_of.Post κs a r' s' → r ≡ r'
of_fit_of κs a r r' s s' p q = one p q

pub of_judge : (κs : _) (a : _) (r r' : _) (s s' : _) → judge.Post κs a r s → judge.Post κs a r' s' → r ≡ r'
of_judge κs a r r' s s' p q = one p q

pub of_read_command : (κs : _) (a : _) (r r' : _) (s s' : _) → read_command.Post κs a r s → read_command.Post κs a r' s' → r ≡ r'
of_read_command κs a r r' s s' p q = one p q

pub of_reading_status : (κs : _) (a : _) (r r' : _) (s s' : _) → reading_status.Post κs a r s → reading_status.Post κs a r' s' → r ≡ r'
of_reading_status κs a r r' s s' p q = one p q
