-- One permitted answer: two answers, with the lent memories after them, that meet the contract of a public function are equal.
-- `F.Post` is the contract of F as its code states it.
-- Assumes nothing.
use Rattle.std.proofs.Common.{◌≡◌}
use Rattle.words.proofs.OneAnswer.{one}
use Rattle.recordwriter.proofs.writer.write_record.Reads as write_record

pub of_write_record : (κs : _) (a : _) (r r' : _) (s s' : _) → write_record.Post κs a r s → write_record.Post κs a r' s'
    → (r ≡ r') × (s.1.1.1.0.now ≡ s'.1.1.1.0.now)
of_write_record κs a r r' s s' p q = (one p.0 q.0, one p.1 q.1)
