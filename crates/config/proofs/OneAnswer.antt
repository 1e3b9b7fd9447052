-- One permitted answer: two answers, with the lent memories after them, that meet the contract of a public function are equal.
-- `F.Post` is the contract of F as its code states it.
-- Assumes nothing.
use mathlib.Core.Path.{◌≡◌}
use Rattle.words.proofs.OneAnswer.{one}
use Rattle.config.proofs.config.delivered.Reads as delivered
use Rattle.config.proofs.config.is_writable.Reads as is_writable
use Rattle.config.proofs.config.is_readable.Reads as is_readable
use Rattle.config.proofs.config.read_byte.Reads as read_byte
use Rattle.config.proofs.config.write_byte.Reads as write_byte
use Rattle.config.proofs.config.write_hsb.Reads as write_hsb
use Rattle.config.proofs.config.config_after_erase.Reads as config_after_erase
use Rattle.config.proofs.level.level_of.Reads as level_of
use Rattle.config.proofs.level.ssb_level.Reads as ssb_level

pub of_delivered : (κs : _) (a : _) (r r' : _) (s s' : _) → delivered.Post κs a r s → delivered.Post κs a r' s' → r ≡ r'
of_delivered κs a r r' s s' p q = one p q

pub of_is_writable : (κs : _) (a : _) (r r' : _) (s s' : _) → is_writable.Post κs a r s → is_writable.Post κs a r' s' → r ≡ r'
of_is_writable κs a r r' s s' p q = one p q

pub of_is_readable : (κs : _) (a : _) (r r' : _) (s s' : _) → is_readable.Post κs a r s → is_readable.Post κs a r' s' → r ≡ r'
of_is_readable κs a r r' s s' p q = one p q

pub of_read_byte : (κs : _) (a : _) (r r' : _) (s s' : _) → read_byte.Post κs a r s → read_byte.Post κs a r' s' → r ≡ r'
of_read_byte κs a r r' s s' p q = one p q

pub of_write_byte : (κs : _) (a : _) (r r' : _) (s s' : _) → write_byte.Post κs a r s → write_byte.Post κs a r' s' → r ≡ r'
of_write_byte κs a r r' s s' p q = one p q

pub of_write_hsb : (κs : _) (a : _) (r r' : _) (s s' : _) → write_hsb.Post κs a r s → write_hsb.Post κs a r' s' → r ≡ r'
of_write_hsb κs a r r' s s' p q = one p q

pub of_config_after_erase : (κs : _) (a : _) (r r' : _) (s s' : _) → config_after_erase.Post κs a r s → config_after_erase.Post κs a r' s' → r ≡ r'
of_config_after_erase κs a r r' s s' p q = one p q

pub of_level_of : (κs : _) (a : _) (r r' : _) (s s' : _) → level_of.Post κs a r s → level_of.Post κs a r' s' → r ≡ r'
of_level_of κs a r r' s s' p q = one p q

pub of_ssb_level : (κs : _) (a : _) (r r' : _) (s s' : _) → ssb_level.Post κs a r s → ssb_level.Post κs a r' s' → r ≡ r'
of_ssb_level κs a r r' s s' p q = one p q
