-- What each operation that programs or erases pages of the flash stores, in numbers: which pages, in which order, with which bytes. Proved in
-- proofs/StoredHolds.antt.
use Rattle.std.specs.Prelude.{◌↔◌, ◌≡◌, true, List, [], ◌∷◌, ℕ, ◌+◌, ◌-◌, ◌*◌, ◌/◌, ◌%◌, ◌≤◌, ◌<◌, length, replicate}
use Rattle.words.specs.Words.{overlay, Programmed}
use Rattle.memory.specs.Memory.{FlashAddress, Page}
use Rattle.memory.specs.Pages.{Block, Low, Middle, High, block_start, block_ff, block_stores, chip_stores}
use Rattle.memory.specs.Pages.{Store, Rising, store_all, page_store, pages_met, program_stores}
use Rattle.memory.specs.Program.{Programmable, programmable, flash_stores, bytes_stores}
use Rattle.memory.specs.Erase.{block_erase, chip_erase, pages_erase}

-- where it can be, the bytes d are programmed from place a of the memory m on by stores of so many pages, from the first on; else nothing
-- is stored
pub record StoredOrNot (Can : Type 0) (a : ℕ) (d m : List ℕ) (first pages : ℕ) (stores : List Store) : Type 0 where
  pub programmed : Can → Programmed a d m (store_all stores m)
  pub page_count_lem : Can → length stores ≡ pages
  pub rising : Can → Rising first stores
  pub none : (Can → ⊥) → stores ≡ []

-- "for programming flash, the pages that the range meets": a page has 128 bytes
abbrev pub FlashStored : Type 0
FlashStored = (a e : FlashAddress) (d m : List ℕ)
    → StoredOrNot (Programmable 32768 a.0 e.0 d m) a.0 d m (a.0 / 128) (e.0 / 128 - a.0 / 128 + 1) (flash_stores a e d m)

-- ---- of any board

-- some bytes that do not pass the end of a flash of whole pages, which two bytes can address
pub record Storable (a : ℕ) (d m : List ℕ) : Type 0 where
  pub any : 0 < length d
  pub inside : a + length d ≤ length m
  pub whole : length m % 128 ≡ 0
  pub short : length m ≤ 65536

abbrev pub BytesStored : Type 0
BytesStored = (a : FlashAddress) (d m : List ℕ)
    → StoredOrNot (Storable a.0 d m) a.0 d m (a.0 / 128) ((a.0 + length d - 1) / 128 - a.0 / 128 + 1) (bytes_stores a d m)

-- bytes within one page that the flash has
pub record Within (p at : ℕ) (d m : List ℕ) : Type 0 where
  pub within : at + length d ≤ 128
  pub there : 128 * p + 128 ≤ length m

abbrev pub PageStored : Type 0
PageStored = (p : Page) (at : ℕ) (d m : List ℕ) → StoredOrNot (Within p.0 at d m) (128 * p.0 + at) d m p.0 1 (page_store p at d m)

-- pages that the flash has, which two bytes can address
pub record Erasable (p n : ℕ) (m : List ℕ) : Type 0 where
  pub there : 128 * (p + n) ≤ length m
  pub short : length m ≤ 65536

abbrev pub PagesErased : Type 0
PagesErased = (p : Page) (n : ℕ) (m : List ℕ)
    → StoredOrNot (Erasable p.0 n m) (128 * p.0) (replicate (128 * n) 0xFF) m p.0 n (pages_erase p n m)

-- the erases of 01, of a memory that has not the flash's size
abbrev pub NotErased : Type 0
NotErased = (m : List ℕ) → (length m ≡ 32768 → ⊥) → (k : Block) → (block_erase k m ≡ []) × (chip_erase m ≡ [])

-- ---- as a request has them

-- what the rules say of a request, which has asked for size, range and length before, is what the operations store; and the numbers of pages
-- and blocks that both go by
pub record RequestsStore : Type 0 where
  pub programs : (a e : FlashAddress) (d m : List ℕ) → Programmable 32768 a.0 e.0 d m → program_stores a.0 e.0 d m ≡ flash_stores a e d m
  pub asked : (size a e : ℕ) (d m : List ℕ) → (programmable size a e d m ≡ true) ↔ Programmable size a e d m
  pub erases_block : (k : Block) (m : List ℕ) → length m ≡ 32768 → block_stores k m ≡ block_erase k m
  pub erases_chip : (m : List ℕ) → length m ≡ 32768 → chip_stores ≡ chip_erase m
  pub pages_met_lem : (a e : ℕ) → a ≤ e → pages_met a e ≡ e / 128 - a / 128 + 1
  -- stores are made one after another, each page in its place of 128 bytes
  pub store_first : (s : Store) (ss : List Store) (m : List ℕ) → store_all (s ∷ ss) m ≡ store_all ss (overlay (128 * s.page.0) s.bytes m)
  pub no_store : (m : List ℕ) → store_all [] m ≡ m
  pub low : (block_start Low ≡ 0x0000) × (block_ff Low ≡ replicate 8192 0xFF)
  pub middle : (block_start Middle ≡ 0x2000) × (block_ff Middle ≡ replicate 8192 0xFF)
  pub high : (block_start High ≡ 0x4000) × (block_ff High ≡ replicate 16384 0xFF)
