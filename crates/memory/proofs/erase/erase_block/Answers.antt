-- `memory::erase::erase_block` meets its contract: the pages of a block, stored FFh, are the stores of its range.
-- Assumes nothing.
use Rattle.std.proofs.Common.{◌≡◌, ℕ, ◌∙◌, length, List, sym, arith}
use borrow.Author.Tests.{eq-eqb, ne_eqb}
use Rattle.words.specs.Words.{overlay}
use Rattle.memory.specs.Memory.{flash_size}
use Rattle.memory.specs.Pages.{Block, Low, Middle, High, store_all, pages_met, block_start, block_end, block_ff}
use Rattle.memory.specs.Erase.{block_erase}
use Rattle.memory.proofs.PagesLaws.{store_all_block_stores, length_block_stores}
use Rattle.memory.proofs.EraseLaws.{length_pages_erase, store_all_pages_erase}
use Rattle.memory.proofs.erase.erase_block.Goals as goal

none_erased : (k : Block) (m : List ℕ) → (length m ≡ flash_size → ⊥) → 0 ≡ length (block_erase k m)
unfolding block_erase
none_erased k m h = rw (ne_eqb (length m) flash_size h)

not_erased : (k : Block) (m : List ℕ) → (length m ≡ flash_size → ⊥) → m ≡ store_all (block_erase k m) m
unfolding block_erase
not_erased k m h = rw (ne_eqb (length m) flash_size h)

-- k is the block k₀, whose pages were stored
count_erased : (k k₀ : Block) (m : List ℕ) (r : ℕ) → k ≡ k₀ → length m ≡ flash_size → r ≡ pages_met (block_start k₀) (block_end k₀)
    → r ≡ length (block_erase k m)
unfolding block_erase
count_erased k k₀ m r q h p = rw (q, eq-eqb (length m) flash_size h) (p ∙ sym (length_block_stores k₀ m))

erased : (k k₀ : Block) (m m' : List ℕ) → k ≡ k₀ → length m ≡ flash_size → m' ≡ overlay (block_start k₀) (block_ff k₀) m
    → m' ≡ store_all (block_erase k m) m
unfolding block_erase
erased k k₀ m m' q h e = rw (q, eq-eqb (length m) flash_size h) (e ∙ sym (store_all_block_stores k₀ m h))

pub returns-then-flash-ne-FLASH_SIZE-clause-value : goal.returns-then-flash-ne-FLASH_SIZE-clause-value
returns-then-flash-ne-FLASH_SIZE-clause-value c = none_erased _ _ c.if-flash-ne-FLASH_SIZE.true

pub returns-then-flash-ne-FLASH_SIZE-clause-flash_after : goal.returns-then-flash-ne-FLASH_SIZE-clause-flash_after
returns-then-flash-ne-FLASH_SIZE-clause-flash_after c = not_erased _ _ c.if-flash-ne-FLASH_SIZE.true

pub returns-in-Low-clause-value : goal.returns-in-Low-clause-value
returns-in-Low-clause-value c =
    let n = c.erase_from.ensures.value ∙ length_pages_erase _ _ _ (omega arith) (omega arith) in
    count_erased _ Low _ _ c.in-Low.is c.if-flash-ne-FLASH_SIZE.false n

pub returns-in-Low-clause-flash_after : goal.returns-in-Low-clause-flash_after
returns-in-Low-clause-flash_after c =
    let after = c.erase_from.ensures.flash_after ∙ store_all_pages_erase _ _ _ (omega arith) (omega arith) in
    erased _ Low _ _ c.in-Low.is c.if-flash-ne-FLASH_SIZE.false after

pub returns-in-Middle-clause-value : goal.returns-in-Middle-clause-value
returns-in-Middle-clause-value c =
    let n = c.erase_from-in-Middle.ensures.value ∙ length_pages_erase _ _ _ (omega arith) (omega arith) in
    count_erased _ Middle _ _ c.in-Middle.is c.if-flash-ne-FLASH_SIZE.false n

pub returns-in-Middle-clause-flash_after : goal.returns-in-Middle-clause-flash_after
returns-in-Middle-clause-flash_after c =
    let after = c.erase_from-in-Middle.ensures.flash_after ∙ store_all_pages_erase _ _ _ (omega arith) (omega arith) in
    erased _ Middle _ _ c.in-Middle.is c.if-flash-ne-FLASH_SIZE.false after

pub returns-in-High-clause-value : goal.returns-in-High-clause-value
returns-in-High-clause-value c =
    let n = c.erase_from-in-High.ensures.value ∙ length_pages_erase _ _ _ (omega arith) (omega arith) in
    count_erased _ High _ _ c.in-High.is c.if-flash-ne-FLASH_SIZE.false n

pub returns-in-High-clause-flash_after : goal.returns-in-High-clause-flash_after
returns-in-High-clause-flash_after c =
    let after = c.erase_from-in-High.ensures.flash_after ∙ store_all_pages_erase _ _ _ (omega arith) (omega arith) in
    erased _ High _ _ c.in-High.is c.if-flash-ne-FLASH_SIZE.false after
