-- 002's configuration bytes: how a board is delivered, what each row of "Program Configuration Information" stores and what each row of
-- "Read Configuration Information" tells; and the pages of flash that each command stores. Proved in proofs/StoredHolds.antt.
use Rattle.std.specs.Prelude.{◌≡◌, List, [], ℕ, ◌+◌, ◌*◌, ◌<◌}
use Rattle.memory.specs.declared.address.FlashAddress.{FlashAddress}
use Rattle.memory.specs.Memory.{page}
use Rattle.memory.specs.Pages.{Store}
use Rattle.memory.specs.Program.{bytes_stores}
use Rattle.memory.specs.Erase.{pages_erase}
use Rattle.config.specs.declared.level.Level.TheVariants.{L1, L2}
use Rattle.plug.specs.Config.{Config, config, delivered_config, erased_config, level, with_setting, byte_value, Programmed, Unprogrammed}
use Rattle.plug.specs.Config.{Setting, SsbLevel1, SsbLevel2, BootErased, ToBsb, ToSbv, Bljb, X2, Byte, Fixed, Ssb, Bsb, Sbv, Hsb}
use Rattle.plug.specs.Levels.{Command, Program, Display, BlankCheck, EraseBlock, EraseChip, Write, Read, StartReset, StartAt}
use Rattle.plug.specs.Commands.{Block, Block0, Block1, Block2, Block3}
use Rattle.plug.specs.Step.{Board, perform}

-- the row leaves this of a board with BSB b, SBV v, SSB s and HSB h
abbrev pub Leaves : Setting → (ℕ → ℕ → ℕ → ℕ → Config) → Type 0
Leaves x after = (b v s h : ℕ) → with_setting x (config b v s h) ≡ after b v s h

-- the same of HSB alone, which goes from h to `after`
abbrev pub HsbTo : Setting → ℕ → ℕ → Type 0
HsbTo x h after = (b v s : ℕ) → with_setting x (config b v s h) ≡ config b v s after

-- on every board, whatever the record's data, the command leaves this of the configuration
abbrev pub StoresOf : Command → (Config → Config) → Type 0
StoresOf k after = (b : Board) (d : List ℕ) → (perform b k d).config ≡ after b.config

-- the same of the flash: the pages that are stored
abbrev pub PagesOf : Command → (List ℕ → Board → List Store) → Type 0
PagesOf k pages = (b : Board) (d : List ℕ) → (perform b k d).stored ≡ pages d b

pub record Stored : Type 0 where
  -- "BSB .. FFh", "SBV .. F0h", "SSB .. FCh", and HSB, from bit 7 on U P U U U P U U, 1011 1011 binary
  pub delivered : delivered_config ≡ config 0xFF 0xF0 0xFC 0xBB
  -- "Program SSB level1", "Program SSB level2", "Program BSB", "Program SBV"
  pub level_1 : Leaves SsbLevel1 (λ b v s h. config b v 0xFE h)
  pub level_2 : Leaves SsbLevel2 (λ b v s h. config b v 0xFC h)
  pub bsb : (x : ℕ) → Leaves (ToBsb x) (λ b v s h. config x v s h)
  pub sbv : (x : ℕ) → Leaves (ToSbv x) (λ b v s h. config b x s h)
  -- "Erase SBV & BSB"; the "Full Chip erase": "BSB = FFh", "SBV = F0h", "SSB = FFh (NO_SECURITY)"
  pub boot_erased : Leaves BootErased (λ b v s h. config 0xFF 0xF0 s h)
  pub chip_erased : (b v s h : ℕ) → erased_config (config b v s h) ≡ config 0xFF 0xF0 0xFF h
  -- "Program bit BLJB", "Program bit X2": bit 6 and bit 7 of HSB, the other bits stay; "U: Unprogrammed = 1, P: Program = 0"
  pub bljb_programmed : (high bit low : ℕ) → bit < 2 → low < 64 → HsbTo (Bljb Programmed) (high * 128 + bit * 64 + low) (high * 128 + 0 + low)
  pub bljb_unprogrammed : (high bit low : ℕ) → bit < 2 → low < 64 → HsbTo (Bljb Unprogrammed) (high * 128 + bit * 64 + low) (high * 128 + 64 + low)
  pub x2_programmed : (bit low : ℕ) → bit < 2 → low < 128 → HsbTo (X2 Programmed) (bit * 128 + low) (0 + low)
  pub x2_unprogrammed : (bit low : ℕ) → bit < 2 → low < 128 → HsbTo (X2 Unprogrammed) (bit * 128 + low) (128 + low)
  -- the levels that the two rows set
  pub at_level_1 : (c : Config) → level (with_setting SsbLevel1 c) ≡ L1
  pub at_level_2 : (c : Config) → level (with_setting SsbLevel2 c) ≡ L2
  -- "Read SSB", "Read BSB", "Read SBV", "Read HSB"; a fixed byte is told as the row has it
  pub ssb_told : (b v s h : ℕ) → byte_value Ssb (config b v s h) ≡ s
  pub bsb_told : (b v s h : ℕ) → byte_value Bsb (config b v s h) ≡ b
  pub sbv_told : (b v s h : ℕ) → byte_value Sbv (config b v s h) ≡ v
  pub hsb_told : (b v s h : ℕ) → byte_value Hsb (config b v s h) ≡ h
  pub fixed_told : (x b v s h : ℕ) → byte_value (Fixed x) (config b v s h) ≡ x
  -- a record of data programs its bytes, and an erase the pages of its block, from the first on; nothing else stores any
  pub program_pages : (a : FlashAddress) → PagesOf (Program a) (λ d b. bytes_stores a d b.flash)
  pub block_0_pages : PagesOf (EraseBlock Block0) (λ d b. pages_erase (page 0) 64 b.flash)
  pub block_1_pages : PagesOf (EraseBlock Block1) (λ d b. pages_erase (page 64) 64 b.flash)
  pub block_2_pages : PagesOf (EraseBlock Block2) (λ d b. pages_erase (page 128) 128 b.flash)
  pub block_3_pages : PagesOf (EraseBlock Block3) (λ d b. pages_erase (page 256) 256 b.flash)
  pub chip_pages : PagesOf EraseChip (λ d b. pages_erase (page 0) 512 b.flash)
  pub display_none : (a e : FlashAddress) → PagesOf (Display a e) (λ d b. [])
  pub check_none : (a e : FlashAddress) → PagesOf (BlankCheck a e) (λ d b. [])
  pub write_none : (s : Setting) → PagesOf (Write s) (λ d b. [])
  pub read_none : (x : Byte) → PagesOf (Read x) (λ d b. [])
  pub reset_none : PagesOf StartReset (λ d b. [])
  pub start_none : (a : FlashAddress) → PagesOf (StartAt a) (λ d b. [])
  -- a command that is done stores what its row says, and one whose row writes no byte leaves them
  pub write_stores : (s : Setting) → StoresOf (Write s) (with_setting s)
  pub chip_stores_lem : StoresOf EraseChip erased_config
  pub program_leaves : (a : FlashAddress) → StoresOf (Program a) (λ c. c)
  pub display_leaves : (a e : FlashAddress) → StoresOf (Display a e) (λ c. c)
  pub check_leaves : (a e : FlashAddress) → StoresOf (BlankCheck a e) (λ c. c)
  pub block_leaves : (k : Block) → StoresOf (EraseBlock k) (λ c. c)
  pub read_leaves : (x : Byte) → StoresOf (Read x) (λ c. c)
  pub reset_leaves : StoresOf StartReset (λ c. c)
  pub start_leaves : (a : FlashAddress) → StoresOf (StartAt a) (λ c. c)
