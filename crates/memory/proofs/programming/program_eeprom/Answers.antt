-- `memory::programming::program_eeprom` meets its contract: the bytes laid over the EEPROM are those programmed.
-- Assumes nothing.
use Rattle.std.proofs.Common.{◌≡◌, ◌+◌, length, true, false, ℕ, List, sym, ◌∙◌, arith}
use borrow.Author.Tests.{le-leb}
use Rattle.words.specs.Words.{laid}
use Rattle.memory.specs.Program.{programmable, memory_after}
use Rattle.memory.proofs.ProgramLaws.{memory_after_not, memory_after_fit, programmable_fit}
use Rattle.memory.proofs.programming.program_eeprom.Goals as goal

programmed : (size a e place : ℕ) (d m after : List ℕ) → true ≡ programmable size a e d m → place ≡ a → after ≡ laid place d m
    → after ≡ memory_after size a e d m
unfolding laid
programmed size a e place d m after t p q =
    let f = programmable_fit size a e d m (sym t) in
    (rw p at q) ∙ rw (le-leb (a + length d) (length m) (omega (arith, f))) (sym (memory_after_fit size a e d m f))

kept : (size a e : ℕ) (d m : List ℕ) → false ≡ programmable size a e d m → m ≡ memory_after size a e d m
kept size a e d m t = sym (memory_after_not size a e d m (sym t))

pub returns-then-not-is_programmable-clause-eeprom_after : goal.returns-then-not-is_programmable-clause-eeprom_after
returns-then-not-is_programmable-clause-eeprom_after c = kept _ _ _ _ _ (sym c.if-not-is_programmable.true ∙ c.is_programmable.ensures)

pub returns-clause-eeprom_after : goal.returns-clause-eeprom_after
returns-clause-eeprom_after c =
    programmed _ _ _ _ _ _ _ (sym c.if-not-is_programmable.false ∙ c.is_programmable.ensures) (omega arith) c.lay.ensures.memory_after
