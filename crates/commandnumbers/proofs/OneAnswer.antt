-- One permitted answer: two answers that meet the contract of a public function are equal. `F.Post` is the contract of F as its code
-- states it.
-- Assumes nothing.
use mathlib.Core.Path.{◌≡◌}
use Rattle.words.proofs.OneAnswer.{one}
use Rattle.commandnumbers.proofs.command_number.pack_command.Reads as pack_command
use Rattle.commandnumbers.proofs.command_number.command_of.Reads as command_of

pub of_pack_command : (κs : _) (a : _) (r r' : _) (s s' : _) → pack_command.Post κs a r s → pack_command.Post κs a r' s' → r ≡ r'
of_pack_command κs a r r' s s' p q = one p q

pub of_command_of : (κs : _) (a : _) (r r' : _) (s s' : _) → command_of.Post κs a r s → command_of.Post κs a r' s' → r ≡ r'
of_command_of κs a r r' s s' p q = one p q
