-- One permitted answer: two answers that meet the contract of a public function are equal. `F.Post` is the contract of F as its code
-- states it.
-- Assumes nothing.
use mathlib.Core.Path.{◌≡◌}
use Rattle.words.proofs.OneAnswer.{one}
use Rattle.plugnumbers.proofs.config_number.pack_config.Reads as pack_config
use Rattle.plugnumbers.proofs.config_number.config_of.Reads as config_of
use Rattle.plugnumbers.proofs.outcome_number.pack_outcome.Reads as pack_outcome

pub of_pack_config : (κs : _) (a : _) (r r' : _) (s s' : _) → pack_config.Post κs a r s → pack_config.Post κs a r' s' → r ≡ r'
of_pack_config κs a r r' s s' p q = one p q

pub of_config_of : (κs : _) (a : _) (r r' : _) (s s' : _) → config_of.Post κs a r s → config_of.Post κs a r' s' → r ≡ r'
of_config_of κs a r r' s s' p q = one p q

pub of_pack_outcome : (κs : _) (a : _) (r r' : _) (s s' : _) → pack_outcome.Post κs a r s → pack_outcome.Post κs a r' s' → r ≡ r'
of_pack_outcome κs a r r' s s' p q = one p q
