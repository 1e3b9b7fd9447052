-- 002's tables "Requests from Host", row by row: the command of a record by its type and its data. Then that no other record is one.
-- Proved in proofs/RowsHold.antt.
use Rattle.std.specs.Prelude.{◌≡◌, false, List, [], ◌∷◌, ℕ, ◌+◌, ◌*◌, ◌<◌, length, None, Some}
use Rattle.words.specs.Words.{among}
use Rattle.memory.specs.Memory.{flash_address}
use Rattle.memory.specs.declared.address.FlashAddress.{FlashAddress}
use Rattle.plug.specs.Config.{Programmed, Unprogrammed, SsbLevel1, SsbLevel2, BootErased, ToBsb, ToSbv, Bljb, X2, Fixed, Ssb, Bsb, Sbv, Hsb}
use Rattle.plug.specs.Levels.{Command, Program, Display, BlankCheck, EraseBlock, EraseChip, Write, Read, StartReset, StartAt}
use Rattle.plug.specs.Commands.{Block0, Block1, Block2, Block3, form}

-- a record of this type with this data is this command, whatever its load offset; or it is none
abbrev pub Row : ℕ → List ℕ → Command → Type 0
Row kind d k = (offset : ℕ) → form kind offset d ≡ Some k

abbrev pub NoRow : ℕ → List ℕ → Type 0
NoRow kind d = (offset : ℕ) → form kind offset d ≡ None

-- an address of two bytes, the high one first
abbrev pub address : ℕ → ℕ → FlashAddress
address high low = flash_address (high * 256 + low)

-- the types; the record lengths of type 03h; and by type and record length the codes that stand in Data[0] and Data[1], "07h 02h" being 0702h
abbrev pub types : List ℕ
types = 0x00 ∷ 0x03 ∷ 0x04 ∷ 0x05 ∷ []

abbrev pub change_lengths : List ℕ
change_lengths = 0x01 ∷ 0x02 ∷ 0x03 ∷ 0x04 ∷ []

abbrev pub changes_of2 : List ℕ
changes_of2 = 0x0100 ∷ 0x0120 ∷ 0x0140 ∷ 0x0180 ∷ 0x0300 ∷ 0x0400 ∷ 0x0500 ∷ 0x0501 ∷ []

abbrev pub changes_of3 : List ℕ
changes_of3 = 0x0600 ∷ 0x0601 ∷ 0x0A04 ∷ 0x0A08 ∷ []

abbrev pub reads : List ℕ
reads = 0x0000 ∷ 0x0001 ∷ 0x0002 ∷ 0x0003 ∷ 0x0700 ∷ 0x0701 ∷ 0x0702 ∷ 0x0B00 ∷ 0x0E00 ∷ 0x0E01 ∷ 0x0F00 ∷ []

pub record Rows : Type 0 where
  -- "Program Flash | 00h | Start Address": the load offset is the start address
  pub program_flash_lem : (offset : ℕ) (d : List ℕ) → form 0x00 offset d ≡ Some (Program (flash_address offset))
  -- "04h .. 05h": "Start Address", "End Address", then "00h" for "Read Flash" and "01h" for "Blank check on Flash"
  pub read_flash : (h l i m : ℕ) → Row 0x04 (h ∷ l ∷ i ∷ m ∷ 0x00 ∷ []) (Display (address h l) (address i m))
  pub blank_check : (h l i m : ℕ) → Row 0x04 (h ∷ l ∷ i ∷ m ∷ 0x01 ∷ []) (BlankCheck (address h l) (address i m))
  -- "Erase SBV & BSB", "Program SSB level1", "Program SSB level2", "Program BSB", "Program SBV"
  pub erase_boot : Row 0x03 (0x04 ∷ 0x00 ∷ []) (Write BootErased)
  pub ssb_level_1 : Row 0x03 (0x05 ∷ 0x00 ∷ []) (Write SsbLevel1)
  pub ssb_level_2 : Row 0x03 (0x05 ∷ 0x01 ∷ []) (Write SsbLevel2)
  pub program_bsb : (v : ℕ) → Row 0x03 (0x06 ∷ 0x00 ∷ v ∷ []) (Write (ToBsb v))
  pub program_sbv : (v : ℕ) → Row 0x03 (0x06 ∷ 0x01 ∷ v ∷ []) (Write (ToSbv v))
  -- "Program bit BLJB", "Program bit X2": "the "bit value" is 00h or 01h"
  pub bljb_0 : Row 0x03 (0x0A ∷ 0x04 ∷ 0x00 ∷ []) (Write (Bljb Programmed))
  pub bljb_1 : Row 0x03 (0x0A ∷ 0x04 ∷ 0x01 ∷ []) (Write (Bljb Unprogrammed))
  pub x2_0 : Row 0x03 (0x0A ∷ 0x08 ∷ 0x00 ∷ []) (Write (X2 Programmed))
  pub x2_1 : Row 0x03 (0x0A ∷ 0x08 ∷ 0x01 ∷ []) (Write (X2 Unprogrammed))
  -- "Read Manufacturer Code" to "Read bootloader version", with the values of Table 1; 11h and the device IDs are our choice
  pub manufacturer : Row 0x05 (0x00 ∷ 0x00 ∷ []) (Read (Fixed 0x58))
  pub family : Row 0x05 (0x00 ∷ 0x01 ∷ []) (Read (Fixed 0xD7))
  pub product : Row 0x05 (0x00 ∷ 0x02 ∷ []) (Read (Fixed 0xEC))
  pub revision : Row 0x05 (0x00 ∷ 0x03 ∷ []) (Read (Fixed 0xFF))
  pub read_ssb_lem : Row 0x05 (0x07 ∷ 0x00 ∷ []) (Read Ssb)
  pub read_bsb : Row 0x05 (0x07 ∷ 0x01 ∷ []) (Read Bsb)
  pub read_sbv : Row 0x05 (0x07 ∷ 0x02 ∷ []) (Read Sbv)
  pub read_hsb_lem : Row 0x05 (0x0B ∷ 0x00 ∷ []) (Read Hsb)
  pub device_1 : Row 0x05 (0x0E ∷ 0x00 ∷ []) (Read (Fixed 0xD7))
  pub device_2 : Row 0x05 (0x0E ∷ 0x01 ∷ []) (Read (Fixed 0xEC))
  pub version : Row 0x05 (0x0F ∷ 0x00 ∷ []) (Read (Fixed 0x11))
  -- "Erase block0" to "Erase block2 (32k to 64k)", "Full chip erase"
  pub erase_block_0 : Row 0x03 (0x01 ∷ 0x00 ∷ []) (EraseBlock Block0)
  pub erase_block_1 : Row 0x03 (0x01 ∷ 0x20 ∷ []) (EraseBlock Block1)
  pub erase_block_2 : Row 0x03 (0x01 ∷ 0x40 ∷ []) (EraseBlock Block2)
  pub erase_block_3 : Row 0x03 (0x01 ∷ 0x80 ∷ []) (EraseBlock Block3)
  pub erase_chip : Row 0x03 (0x07 ∷ []) EraseChip
  -- "Start application with a reset pulse generation", "with a jump at "address""
  pub start_reset : Row 0x03 (0x03 ∷ 0x00 ∷ []) StartReset
  pub start_jump : (h l : ℕ) → Row 0x03 (0x03 ∷ 0x01 ∷ h ∷ l ∷ []) (StartAt (address h l))
  -- no other type; of each type no other record length; and no other data
  pub no_type : (kind : ℕ) (d : List ℕ) → among kind types ≡ false → NoRow kind d
  pub no_length_03h : (d : List ℕ) → among (length d) change_lengths ≡ false → NoRow 0x03 d
  pub no_length_04h : (d : List ℕ) → (length d ≡ 0x05 → ⊥) → NoRow 0x04 d
  pub no_length_05h : (d : List ℕ) → (length d ≡ 0x02 → ⊥) → NoRow 0x05 d
  pub no_change_1 : (x : ℕ) → (x ≡ 0x07 → ⊥) → NoRow 0x03 (x ∷ [])
  pub no_change_2 : (x y : ℕ) → among (x * 256 + y) changes_of2 ≡ false → NoRow 0x03 (x ∷ y ∷ [])
  pub no_change_3 : (x y v : ℕ) → among (x * 256 + y) changes_of3 ≡ false → NoRow 0x03 (x ∷ y ∷ v ∷ [])
  pub no_bljb : (v : ℕ) → 0x01 < v → NoRow 0x03 (0x0A ∷ 0x04 ∷ v ∷ [])
  pub no_x2 : (v : ℕ) → 0x01 < v → NoRow 0x03 (0x0A ∷ 0x08 ∷ v ∷ [])
  pub no_change_4 : (x y h l : ℕ) → (x * 256 + y ≡ 0x0301 → ⊥) → NoRow 0x03 (x ∷ y ∷ h ∷ l ∷ [])
  pub no_range : (h l i m x : ℕ) → 0x01 < x → NoRow 0x04 (h ∷ l ∷ i ∷ m ∷ x ∷ [])
  pub no_read : (x y : ℕ) → among (x * 256 + y) reads ≡ false → NoRow 0x05 (x ∷ y ∷ [])
