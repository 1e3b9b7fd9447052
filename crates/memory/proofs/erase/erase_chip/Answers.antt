-- `memory::erase::erase_chip` meets its contract: 256 pages of FFh are a blank flash.
-- Assumes nothing.
use Rattle.std.proofs.Common.{◌≡◌, ℕ, ◌∙◌, length, replicate, List, sym, arith}
use lib.ListN.{length-replicate}
use borrow.Author.Tests.{eq-eqb, ne_eqb}
use Rattle.words.specs.Words.{overlay}
use Rattle.words.proofs.WordsLaws.{overlay_whole}
use Rattle.memory.specs.Memory.{flash_size, flash_pages, blank_flash}
use Rattle.memory.specs.Pages.{store_all}
use Rattle.memory.specs.Erase.{chip_erase}
use Rattle.memory.proofs.PagesLaws.{store_all_chip_stores, length_chip_stores}
use Rattle.memory.proofs.EraseLaws.{length_pages_erase, store_all_pages_erase}
use Rattle.memory.proofs.erase.erase_chip.Goals as goal

none_erased : (m : List ℕ) → (length m ≡ flash_size → ⊥) → 0 ≡ length (chip_erase m)
unfolding chip_erase
none_erased m h = rw (ne_eqb (length m) flash_size h)

not_erased : (m : List ℕ) → (length m ≡ flash_size → ⊥) → m ≡ store_all (chip_erase m) m
unfolding chip_erase
not_erased m h = rw (ne_eqb (length m) flash_size h)

count_erased : (m : List ℕ) (r : ℕ) → length m ≡ flash_size → r ≡ flash_pages → r ≡ length (chip_erase m)
unfolding chip_erase
count_erased m r h p = rw (eq-eqb (length m) flash_size h) (p ∙ sym length_chip_stores)

erased : (m m' : List ℕ) → length m ≡ flash_size → m' ≡ overlay 0 (replicate flash_size 0xFF) m → m' ≡ store_all (chip_erase m) m
unfolding chip_erase blank_flash
erased m m' h e =
    rw (eq-eqb (length m) flash_size h)
    (e ∙ overlay_whole (replicate flash_size 0xFF) m (length-replicate {A = ℕ} flash_size 0xFF ∙ sym h) ∙ sym (store_all_chip_stores m h))

pub returns-then-flash-ne-FLASH_SIZE-clause-value : goal.returns-then-flash-ne-FLASH_SIZE-clause-value
returns-then-flash-ne-FLASH_SIZE-clause-value c = none_erased _ c.if-flash-ne-FLASH_SIZE.true

pub returns-then-flash-ne-FLASH_SIZE-clause-flash_after : goal.returns-then-flash-ne-FLASH_SIZE-clause-flash_after
returns-then-flash-ne-FLASH_SIZE-clause-flash_after c = not_erased _ c.if-flash-ne-FLASH_SIZE.true

pub returns-clause-value : goal.returns-clause-value
returns-clause-value c =
    let n = c.erase_from.ensures.value ∙ length_pages_erase _ _ _ (omega arith) (omega arith) in
    count_erased _ _ c.if-flash-ne-FLASH_SIZE.false n

pub returns-clause-flash_after : goal.returns-clause-flash_after
returns-clause-flash_after c =
    let after = c.erase_from.ensures.flash_after ∙ store_all_pages_erase _ _ _ (omega arith) (omega arith) in
    erased _ _ c.if-flash-ne-FLASH_SIZE.false after
