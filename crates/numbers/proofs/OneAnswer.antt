-- One permitted answer: two answers that meet the contract of a public function are equal. `F.Post` is the contract of F as its code
-- states it.
-- Assumes nothing.
use mathlib.Core.Path.{◌≡◌}
use Rattle.words.proofs.OneAnswer.{one}
use Rattle.numbers.proofs.config_number.pack_config.Reads as pack_config
use Rattle.numbers.proofs.config_number.config_of.Reads as config_of
use Rattle.numbers.proofs.packing.pack_words.Reads as pack_words
use Rattle.numbers.proofs.packing.words_of.Reads as words_of
use Rattle.numbers.proofs.packing.low_byte.Reads as low_byte

pub of_pack_config : (κs : _) (a : _) (r r' : _) (s s' : _) → pack_config.Post κs a r s → pack_config.Post κs a r' s' → r ≡ r'
of_pack_config κs a r r' s s' p q = one p q

pub of_config_of : (κs : _) (a : _) (r r' : _) (s s' : _) → config_of.Post κs a r s → config_of.Post κs a r' s' → r ≡ r'
of_config_of κs a r r' s s' p q = one p q

pub of_pack_words : (κs : _) (a : _) (r r' : _) (s s' : _) → pack_words.Post κs a r s → pack_words.Post κs a r' s' → r ≡ r'
of_pack_words κs a r r' s s' p q = one p q

pub of_words_of : (κs : _) (a : _) (r r' : _) (s s' : _) → words_of.Post κs a r s → words_of.Post κs a r' s' → r ≡ r'
of_words_of κs a r r' s s' p q = one p q

pub of_low_byte : (κs : _) (a : _) (r r' : _) (s s' : _) → low_byte.Post κs a r s → low_byte.Post κs a r' s' → r ≡ r'
of_low_byte κs a r r' s s' p q = one p q
