-- One permitted answer: two answers, with the lent memories after them, that meet the contract of a public function are equal.
-- `F.Post` is the contract of F as its code states it.
-- Assumes nothing.
use mathlib.Core.Path.{◌≡◌}
use Rattle.words.proofs.OneAnswer.{one}
use Rattle.listing.proofs.line.starts_erased.Reads as starts_erased
use Rattle.listing.proofs.walk.next_record.Reads as next_record
use Rattle.listing.proofs.count.count_records.Reads as count_records

pub of_starts_erased : (κs : _) (a : _) (r r' : _) (s s' : _) → starts_erased.Post κs a r s → starts_erased.Post κs a r' s' → r ≡ r'
of_starts_erased κs a r r' s s' p q = one p q

pub of_next_record : (κs : _) (a : _) (r r' : _) (s s' : _) → next_record.Post κs a r s → next_record.Post κs a r' s' → r ≡ r'
of_next_record κs a r r' s s' p q = one p q

pub of_count_records : (κs : _) (a : _) (r r' : _) (s s' : _) → count_records.Post κs a r s → count_records.Post κs a r' s' → r ≡ r'
of_count_records κs a r r' s s' p q = one p q
