-- One permitted answer: two answers that meet the contract of a public function are equal. `F.Post` is the contract of F as its code
-- states it.
-- Assumes nothing.
use mathlib.Core.Path.{◌≡◌}
use Rattle.words.proofs.OneAnswer.{one}
use Rattle.sessionnumbers.proofs.session_number.pack_session.Reads as pack_session
use Rattle.sessionnumbers.proofs.session_number.session_of.Reads as session_of
use Rattle.sessionnumbers.proofs.outcome_number.pack_outcome.Reads as pack_outcome
use Rattle.sessionnumbers.proofs.outcome_number.number_after.Reads as number_after

pub of_pack_session : (κs : _) (a : _) (r r' : _) (s s' : _) → pack_session.Post κs a r s → pack_session.Post κs a r' s' → r ≡ r'
of_pack_session κs a r r' s s' p q = one p q

pub of_session_of : (κs : _) (a : _) (r r' : _) (s s' : _) → session_of.Post κs a r s → session_of.Post κs a r' s' → r ≡ r'
of_session_of κs a r r' s s' p q = one p q

pub of_pack_outcome : (κs : _) (a : _) (r r' : _) (s s' : _) → pack_outcome.Post κs a r s → pack_outcome.Post κs a r' s' → r ≡ r'
of_pack_outcome κs a r r' s s' p q = one p q

pub of_number_after : (κs : _) (a : _) (r r' : _) (s s' : _) → number_after.Post κs a r s → number_after.Post κs a r' s' → r ≡ r'
of_number_after κs a r r' s s' p q = one p q
