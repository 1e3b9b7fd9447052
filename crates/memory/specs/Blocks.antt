-- 01's erases in numbers, beside their definitions: each block's addresses, and how many pages. Proved in proofs/BlocksHold.antt.
use Rattle.std.specs.Prelude.{◌⊎◌, ◌≡◌, List, ℕ, ◌/◌, ◌≤◌, ◌<◌, length, get_or}
use Rattle.memory.specs.Pages.{Store, Rising, store_all, Low, Middle, High}
use Rattle.memory.specs.Erase.{block_erase, chip_erase}

-- "sets its range to FFh": these stores set the addresses a to e of the memory m, and are so many pages, one after another
pub record Erased (a e pages : ℕ) (stores : List Store) (m : List ℕ) : Type 0 where
  pub same_size : length (store_all stores m) ≡ length m
  pub blank : (i : ℕ) → a ≤ i → i ≤ e → get_or (store_all stores m) i 0 ≡ 0xFF
  pub others_stay : (i : ℕ) → (i < a) ⊎ (e < i) → get_or (store_all stores m) i 0 ≡ get_or m i 0
  pub page_count_lem : length stores ≡ pages
  pub rising : Rising (a / 128) stores

-- "erase 0000h-1FFFh / 2000h-3FFFh / 4000h-7FFFh / full chip", "64, 64, 128, 256 for the erases": of a flash of its size
pub record Erases (m : List ℕ) : Type 0 where
  pub low : Erased 0x0000 0x1FFF 64 (block_erase Low m) m
  pub middle : Erased 0x2000 0x3FFF 64 (block_erase Middle m) m
  pub high : Erased 0x4000 0x7FFF 128 (block_erase High m) m
  pub chip_size : length (store_all (chip_erase m) m) ≡ 32768
  pub chip_blank : (i : ℕ) → i ≤ 0x7FFF → get_or (store_all (chip_erase m) m) i 0 ≡ 0xFF
  pub chip_pages : length (chip_erase m) ≡ 256
  pub chip_rising : Rising 0 (chip_erase m)

abbrev pub BlocksErased : Type 0
BlocksErased = (m : List ℕ) → length m ≡ 32768 → Erases m
