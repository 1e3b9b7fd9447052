-- 002's sentences on the levels, its blocks, bytes and fields, held against the tables that the rules use. Proved in
-- proofs/SecurityHolds.antt.
use Rattle.std.specs.Prelude.{◌≡◌, true, false, List, ℕ, suc, ◌+◌, ◌*◌, ◌≤◌}
use Rattle.memory.specs.Memory.{page_size}
use Rattle.memory.specs.declared.address.FlashAddress.{FlashAddress}
use Rattle.config.specs.declared.level.Level.{Level}
use Rattle.config.specs.declared.level.Level.TheVariants.{L0, L1, L2}
use Rattle.plug.specs.Config.{Config, config, delivered_config, erased_config, level, with_setting, Setting, Programmed, Unprogrammed, SsbLevel2, BootErased}
use Rattle.plug.specs.Config.{Bljb, X2, Fixed, Ssb, Bsb, Sbv, Hsb}
use Rattle.plug.specs.Levels.{Command, Program, Display, BlankCheck, EraseBlock, EraseChip, Write, Read, StartReset, StartAt, allowed}
use Rattle.plug.specs.Commands.{Block, Block0, Block1, Block2, Block3, block_page, block_pages, flash_pages, flash_size, form, bad_range}

-- a command that no level but 0 lets through, and one that level 2 does not
abbrev pub OnlyAt0 : Command → Type 0
OnlyAt0 k = (allowed k L0 ≡ true) × (allowed k L1 ≡ false) × (allowed k L2 ≡ false)

abbrev pub NotAt2 : Command → Type 0
NotAt2 k = (allowed k L0 ≡ true) × (allowed k L1 ≡ true) × (allowed k L2 ≡ false)

pub record Security : Type 0 where
  -- "level 0: NO_SECURITY"
  pub all_at_0 : (k : Command) → allowed k L0 ≡ true
  -- "In this level it is impossible to write in the Flash memory, BSB and SBV."; "Level 2 forbids all read and write accesses"
  pub flash_written : (a : FlashAddress) → OnlyAt0 (Program a)
  pub flash_read : (a e : FlashAddress) → NotAt2 (Display a e)
  pub block_erased : (k : Block) → OnlyAt0 (EraseBlock k)
  -- "From level 1, one can write only level 2."
  pub level_1_writes : (s : Setting) → allowed (Write s) L1 ≡ true → s ≡ SsbLevel2
  pub level_2_written : NotAt2 (Write SsbLevel2)
  pub level_2_writes : (s : Setting) → allowed (Write s) L2 ≡ false
  -- "BSB & SBV", "Fuse bit": "Read only access allowed" at level 1, "All access not allowed" at level 2; "SSB": "Read only access allowed"
  -- at level 2, and below it by our choice; "Manufacturer info", "Bootloader info": "Read only access allowed" at every level
  pub bsb_read : NotAt2 (Read Bsb)
  pub sbv_read : NotAt2 (Read Sbv)
  pub hsb_read : NotAt2 (Read Hsb)
  pub ssb_read : (l : Level) → allowed (Read Ssb) l ≡ true
  pub fixed_read : (v : ℕ) (l : Level) → allowed (Read (Fixed v)) l ≡ true
  -- "Full chip erase", "Blank Check": "Allowed" at every level
  pub chip_erased : (l : Level) → allowed EraseChip l ≡ true
  pub blank_checked : (a e : FlashAddress) (l : Level) → allowed (BlankCheck a e) l ≡ true
  -- no row of the table has a start
  pub reset_started : (l : Level) → allowed StartReset l ≡ true
  pub address_started : (a : FlashAddress) (l : Level) → allowed (StartAt a) l ≡ true
  -- "Its own table of levels holds, and P1 for odd values"
  pub ffh_at_0 : (c : Config) → c.ssb ≡ 0xFF → level c ≡ L0
  pub feh_at_1 : (c : Config) → c.ssb ≡ 0xFE → level c ≡ L1
  pub other_at_2 : (c : Config) → (c.ssb ≡ 0xFF → ⊥) → (c.ssb ≡ 0xFE → ⊥) → level c ≡ L2
  -- a display has no limit but the room: no forward range is refused
  pub display_unlimited : (a e : FlashAddress) (n : ℕ) → a.0 ≤ e.0 → bad_range (Display a e) n ≡ false
  -- "SBV F0h and SSB FCh as delivered": level 2; a full chip erase leaves SBV F0h and SSB FFh: level 0; HSB stays
  pub delivered_at_2 : level delivered_config ≡ L2
  pub erased_bytes : erased_config delivered_config ≡ config 0xFF 0xF0 0xFF 0xBB
  pub erased_at_0 : level (erased_config delivered_config) ≡ L0
  pub boot_erased : with_setting BootErased (config 0x12 0x34 0xFF 0xBB) ≡ config 0xFF 0xF0 0xFF 0xBB
  -- bit 6 is BLJB and bit 7 is X2B, of HSB BBh
  pub bljb_set : with_setting (Bljb Unprogrammed) delivered_config ≡ config 0xFF 0xF0 0xFC 0xFB
  pub x2_cleared : with_setting (X2 Programmed) delivered_config ≡ config 0xFF 0xF0 0xFC 0x3B
  -- "this field is used only for Data Program Record"
  pub offset_not_used : (kind offset other : ℕ) (d : List ℕ) → (kind ≡ 0x00 → ⊥) → form kind offset d ≡ form kind other d
  -- "block0 (From 0000h to 1FFFh)" to "block3 (From 8000h to FFFFh)": where each begins, and the first address after it
  pub block_0 : (page_size * (block_page Block0).0 ≡ 0x0000) × (page_size * ((block_page Block0).0 + block_pages Block0) ≡ suc 0x1FFF)
  pub block_1 : (page_size * (block_page Block1).0 ≡ 0x2000) × (page_size * ((block_page Block1).0 + block_pages Block1) ≡ suc 0x3FFF)
  pub block_2 : (page_size * (block_page Block2).0 ≡ 0x4000) × (page_size * ((block_page Block2).0 + block_pages Block2) ≡ suc 0x7FFF)
  pub block_3 : (page_size * (block_page Block3).0 ≡ 0x8000) × (page_size * ((block_page Block3).0 + block_pages Block3) ≡ suc 0xFFFF)
  pub whole_flash : page_size * flash_pages ≡ flash_size
