-- `worked::apart::other_memory_lent`: no memory has the size that the other one's operation asks for.
-- Assumes nothing.
use Rattle.std.proofs.Common.{rules, ◌∙◌}
use borrow.Author.Tests.{eq-eqb}
use Rattle.worked.proofs.ApartLaws.{pages_of_eeprom}
use Rattle.worked.proofs.apart.other_memory_lent.Goals as goal

pub expect-requires : goal.expect-requires
expect-requires c = eq-eqb _ _ (c.into_flash.ensures ∙ pages_of_eeprom _ (search rules))
