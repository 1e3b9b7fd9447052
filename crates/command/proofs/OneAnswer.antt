-- One permitted answer: two answers, with the lent memories after them, that meet the contract of a public function are equal.
-- `F.Post` is the contract of F as its code states it.
-- Assumes nothing.
use mathlib.Core.Path.{◌≡◌}
use Rattle.words.proofs.OneAnswer.{one}
use Rattle.command.proofs.check.bad_range.Reads as bad_range
use Rattle.command.proofs.check.past_flash.Reads as past_flash
use Rattle.command.proofs.check.bad_address.Reads as bad_address
use Rattle.command.proofs.reader.Fault.number.Reads as number
use Rattle.command.proofs.transfer.range_count.Reads as range_count
use Rattle.command.proofs.transfer.transfer_of.Reads as transfer_of

pub of_bad_range : (κs : _) (a : _) (r r' : _) (s s' : _) → bad_range.Post κs a r s → bad_range.Post κs a r' s' → r ≡ r'
of_bad_range κs a r r' s s' p q = one p q

pub of_past_flash : (κs : _) (a : _) (r r' : _) (s s' : _) → past_flash.Post κs a r s → past_flash.Post κs a r' s' → r ≡ r'
of_past_flash κs a r r' s s' p q = one p q

pub of_bad_address : (κs : _) (a : _) (r r' : _) (s s' : _) → bad_address.Post κs a r s → bad_address.Post κs a r' s' → r ≡ r'
of_bad_address κs a r r' s s' p q = one p q

pub of_fault_number : (κs : _) (a : _) (r r' : _) (s s' : _) → number.Post κs a r s → number.Post κs a r' s' → r ≡ r'
of_fault_number κs a r r' s s' p q = one p q

pub of_range_count : (κs : _) (a : _) (r r' : _) (s s' : _) → range_count.Post κs a r s → range_count.Post κs a r' s' → r ≡ r'
of_range_count κs a r r' s s' p q = one p.0 q.0

pub of_transfer_of : (κs : _) (a : _) (r r' : _) (s s' : _) → transfer_of.Post κs a r s → transfer_of.Post κs a r' s' → r ≡ r'
of_transfer_of κs a r r' s s' p q = one p q
