-- `worked::apart::own_memory_lent`: each memory has the size that its operation asks for.
-- Assumes nothing.
use Rattle.std.proofs.Common.{rules, ◌∙◌}
use borrow.Author.Tests.{eq-eqb}
use Rattle.worked.proofs.ApartLaws.{pages_of_flash}
use Rattle.worked.proofs.apart.own_memory_lent.Goals as goal

pub expect-requires : goal.expect-requires
expect-requires c = eq-eqb _ _ (c.into_flash.ensures ∙ pages_of_flash _ (search rules))
