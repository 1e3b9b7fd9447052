-- `memory::programming::program_flash` meets its contract: the pages that the bytes meet are the stores of the range.
-- Assumes nothing.
use Rattle.std.proofs.Common.{◌≡◌, ◌+◌, ◌-◌, length, true, false, ℕ, List, sym, ap, ◌∙◌, arith}
use Rattle.words.specs.Words.{overlay}
use Rattle.memory.specs.Memory.{FlashAddress, flash_size}
use Rattle.memory.specs.Pages.{store_all, pages_met}
use Rattle.memory.specs.Program.{programmable, flash_stores}
use Rattle.memory.proofs.PagesLaws.{length_program_stores}
use Rattle.memory.proofs.ProgramLaws.{programmable_fit, memory_after_fit, flash_stores_not, flash_stores_fit, store_all_flash_stores}
use Rattle.memory.proofs.programming.program_flash.Goals as goal

module _ (a e : FlashAddress) (d m : List ℕ) where
  none_counted : false ≡ programmable flash_size a.0 e.0 d m → 0 ≡ length (flash_stores a e d m)
  none_counted t = rw (flash_stores_not a e d m (sym t))

  none_stored : false ≡ programmable flash_size a.0 e.0 d m → m ≡ store_all (flash_stores a e d m) m
  none_stored t = rw (flash_stores_not a e d m (sym t))

  module _ (t : true ≡ programmable flash_size a.0 e.0 d m) where
    all_counted : (n : ℕ) → n ≡ pages_met a.0 (a.0 + length d - 1) → n ≡ length (flash_stores a e d m)
    all_counted n q =
        let f = programmable_fit flash_size a.0 e.0 d m (sym t) in
        let last : a.0 + length d - 1 ≡ e.0 = omega (arith, f) in
        q ∙ ap (pages_met a.0) last ∙ sym (ap length (flash_stores_fit a e d m f) ∙ length_program_stores a.0 e.0 d m)

    all_stored : (m' : List ℕ) → m' ≡ overlay a.0 d m → m' ≡ store_all (flash_stores a e d m) m
    all_stored m' q =
        let f = programmable_fit flash_size a.0 e.0 d m (sym t) in
        q ∙ sym (store_all_flash_stores a e d m ∙ memory_after_fit flash_size a.0 e.0 d m f)

pub returns-then-not-is_programmable-clause-value : goal.returns-then-not-is_programmable-clause-value
returns-then-not-is_programmable-clause-value c = none_counted _ _ _ _ (sym c.if-not-is_programmable.true ∙ c.is_programmable.ensures)

pub returns-then-not-is_programmable-clause-flash_after : goal.returns-then-not-is_programmable-clause-flash_after
returns-then-not-is_programmable-clause-flash_after c = none_stored _ _ _ _ (sym c.if-not-is_programmable.true ∙ c.is_programmable.ensures)

pub returns-clause-value : goal.returns-clause-value
returns-clause-value c = all_counted _ _ _ _ (sym c.if-not-is_programmable.false ∙ c.is_programmable.ensures) _ c.program_pages.ensures.value

pub returns-clause-flash_after : goal.returns-clause-flash_after
returns-clause-flash_after c = all_stored _ _ _ _ (sym c.if-not-is_programmable.false ∙ c.is_programmable.ensures) _ c.program_pages.ensures.flash_after
