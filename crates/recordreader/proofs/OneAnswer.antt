-- One permitted answer: two answers, with the lent memories after them, that meet the contract of a public function are equal.
-- `F.Post` is the contract of F as its code states it.
-- Assumes nothing.
use Rattle.std.proofs.Common.{◌≡◌}
use Rattle.words.proofs.OneAnswer.{one}
use Rattle.recordreader.proofs.reader.read_record.Reads as read_record

pub of_read_record : (κs : _) (a : _) (r r' : _) (s s' : _) → read_record.Post κs a r s → read_record.Post κs a r' s'
    → (r ≡ r') × (s.1.0.now ≡ s'.1.0.now)
of_read_record κs a r r' s s' p q = (one p.0 q.0, one p.1 q.1)
