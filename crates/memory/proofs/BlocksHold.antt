-- The erases in numbers hold: the blocks by one law over the block, and the chip.
-- Assumes nothing.
use mathlib.Core.Logic.{◌⊎◌, inl, inr}
use mathlib.Core.Path.{◌≡◌, sym, ap, ◌∙◌}
use mathlib.Core.List.{List}
use Prim.Native.Nat.{ℕ, ◌+◌, ◌-◌, ◌≤◌, ◌<◌}
use native.Mathlib.Omega.{arith}
use lib.ListN.{length, get_or, length-replicate, get_or-replicate}
use borrow.Author.Tests.{eq-eqb}
use Rattle.words.specs.Words.{count}
use Rattle.memory.specs.Memory.{flash_size, blank_flash}
use Rattle.memory.specs.Pages.{Block, Low, Middle, High, store_all, pages_met, block_start, block_end, block_ff, block_stores}
use Rattle.memory.specs.Erase.{block_erase, chip_erase}
use Rattle.memory.specs.Blocks.{Erased, Erases, BlocksErased}
use Rattle.memory.proofs.PagesLaws.{block_stores_programmed, length_block_stores, rising_block_stores}
use Rattle.memory.proofs.PagesLaws.{store_all_chip_stores, length_chip_stores, rising_chip_stores, length_blank_flash}

module _ (m : List ℕ) (size : length m ≡ flash_size) where
  block : (k : Block) → block_start k ≤ block_end k → Erased (block_start k) (block_end k) (pages_met (block_start k) (block_end k)) (block_erase k m) m
  unfolding block_erase
  block k forward =
      let p = block_stores_programmed k m size in
      let a : ℕ = block_start k in
      let e : ℕ = block_end k in
      let n : length (block_ff k) ≡ count a e = length-replicate {A = ℕ} (count a e) 0xFF in
      rw (eq-eqb (length m) flash_size size) (record {
        same_size = p.same_size;
        blank = λ i h l.
            let on : a + (i - a) ≡ i = omega arith in
            ap (λ j. get_or (store_all (block_stores k m) m) j 0) (sym on) ∙ p.new_values (i - a) (omega arith)
            ∙ get_or-replicate (count a e) (i - a) 0xFF 0 (omega arith);
        others_stay = λ i h. p.others_stay i (outside a e (length (block_ff k)) i (omega arith) h);
        page_count_lem = length_block_stores k m;
        rising = rising_block_stores k m size;
      })
    where
      outside : (a e n i : ℕ) → a + n ≡ e + 1 → (i < a) ⊎ (e < i) → (i < a) ⊎ (a + n ≤ i)
      outside a e n i q (inl h) = inl h
      outside a e n i q (inr h) = inr (omega arith)

  erases : Erases m
  unfolding chip_erase blank_flash
  erases =
      let right = eq-eqb (length m) flash_size size in
      let s = store_all_chip_stores m size in
      record {
        low = block Low (omega arith);
        middle = block Middle (omega arith);
        high = block High (omega arith);
        chip_size = rw right (ap length s ∙ length_blank_flash);
        chip_blank = λ i h. rw right (ap (λ x. get_or x i 0) s ∙ get_or-replicate flash_size i 0xFF 0 (omega arith));
        chip_pages = rw right length_chip_stores;
        chip_rising = rw right rising_chip_stores;
      }

pub blocks_erased : BlocksErased
blocks_erased m size = erases m size
