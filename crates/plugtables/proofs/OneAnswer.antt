-- One permitted answer: two answers that meet the contract of a public function are equal.
-- `F.Post` is the contract of F as its code states it.
-- Assumes nothing.
use mathlib.Core.Path.{◌≡◌}
use Rattle.words.proofs.OneAnswer.{one}
use Rattle.plugtables.proofs.allowed.is_allowed.Reads as is_allowed
use Rattle.plugtables.proofs.form.form_of.Reads as form_of
use Rattle.plugtables.proofs.form.bad_range.Reads as bad_range
use Rattle.plugtables.proofs.setting.delivered.Reads as delivered
use Rattle.plugtables.proofs.setting.erased.Reads as erased
use Rattle.plugtables.proofs.setting.with_setting.Reads as with_setting
use Rattle.plugtables.proofs.setting.byte_value.Reads as byte_value
use Rattle.plugtables.proofs.setting.config_after_erase.Reads as config_after_erase

pub of_is_allowed : (κs : _) (a : _) (r r' : _) (s s' : _) → is_allowed.Post κs a r s → is_allowed.Post κs a r' s' → r ≡ r'
of_is_allowed κs a r r' s s' p q = one p q

pub of_form_of : (κs : _) (a : _) (r r' : _) (s s' : _) → form_of.Post κs a r s → form_of.Post κs a r' s' → r ≡ r'
of_form_of κs a r r' s s' p q = one p q

pub of_bad_range : (κs : _) (a : _) (r r' : _) (s s' : _) → bad_range.Post κs a r s → bad_range.Post κs a r' s' → r ≡ r'
of_bad_range κs a r r' s s' p q = one p q

pub of_delivered : (κs : _) (a : _) (r r' : _) (s s' : _) → delivered.Post κs a r s → delivered.Post κs a r' s' → r ≡ r'
of_delivered κs a r r' s s' p q = one p q

pub of_erased : (κs : _) (a : _) (r r' : _) (s s' : _) → erased.Post κs a r s → erased.Post κs a r' s' → r ≡ r'
of_erased κs a r r' s s' p q = one p q

pub of_with_setting : (κs : _) (a : _) (r r' : _) (s s' : _) → with_setting.Post κs a r s → with_setting.Post κs a r' s' → r ≡ r'
of_with_setting κs a r r' s s' p q = one p q

pub of_byte_value : (κs : _) (a : _) (r r' : _) (s s' : _) → byte_value.Post κs a r s → byte_value.Post κs a r' s' → r ≡ r'
of_byte_value κs a r r' s s' p q = one p q

pub of_config_after_erase : (κs : _) (a : _) (r r' : _) (s s' : _) → config_after_erase.Post κs a r s → config_after_erase.Post κs a r' s' → r ≡ r'
of_config_after_erase κs a r r' s s' p q = one p q
