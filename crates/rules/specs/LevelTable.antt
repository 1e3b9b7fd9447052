-- 01's table of levels, cell by cell, beside the definition of `level_status`. Proved in proofs/LevelTableHolds.antt.
use Rattle.std.specs.Prelude.{◌≡◌, ℕ}
use Rattle.memory.specs.declared.address.FlashAddress.{FlashAddress}
use Rattle.memory.specs.declared.address.EepromAddress.{EepromAddress}
use Rattle.memory.specs.declared.address.Range.{Range}
use Rattle.memory.specs.declared.address.Block.{Block}
use Rattle.config.specs.declared.level.Level.TheVariants.{L0, L1, L2}
use Rattle.command.specs.declared.command.Command.{Command}
use Rattle.command.specs.declared.command.Command.TheVariants.{ProgramFlash, ProgramEeprom, Read, BlankCheck, EraseBlock, EraseChip, WriteByte, WriteHsb}
use Rattle.command.specs.declared.command.Command.TheVariants.{StartReset, StartAt, ReadVersion, ReadByte, ReadHsb}
use Rattle.rules.specs.Levels.{level_status}

-- the three cells of a command's row, 00h for yes
abbrev pub Cells : Command → ℕ → ℕ → ℕ → Type 0
Cells k at-0 at_1 at-2 = (level_status k L0 ≡ at-0) × (level_status k L1 ≡ at_1) × (level_status k L2 ≡ at-2)

pub record LevelTable : Type 0 where
  -- "program flash or EEPROM, block erase, write HSB | yes | 03h | 03h"
  pub flash_programmed : (a e : FlashAddress) → Cells (ProgramFlash a e) 0x00 0x03 0x03
  pub eeprom_programmed : (a e : EepromAddress) → Cells (ProgramEeprom a e) 0x00 0x03 0x03
  pub block_erased : (k : Block) → Cells (EraseBlock k) 0x00 0x03 0x03
  pub hsb_written : (v : ℕ) → Cells (WriteHsb v) 0x00 0x03 0x03
  -- "read flash or EEPROM, read HSB | yes | yes | 0Bh"
  pub memory_read : (r : Range) → Cells (Read r) 0x00 0x00 0x0B
  pub hsb_read : Cells ReadHsb 0x00 0x00 0x0B
  -- "write SSB | FEh, FCh | FCh | 03h"; "An SSB value not in its cell gives 03h.", FFh too, which would open the board
  pub ssb_feh : Cells (WriteByte 0x05 0xFE) 0x00 0x03 0x03
  pub ssb_fch : Cells (WriteByte 0x05 0xFC) 0x00 0x00 0x03
  pub ssb_other : (v : ℕ) → (v ≡ 0xFE → ⊥) → (v ≡ 0xFC → ⊥) → Cells (WriteByte 0x05 v) 0x03 0x03 0x03
  -- "blank check, full chip erase, start, read the other bytes, write BSB, SBV, EB, P1_CF, P3_CF, P4_CF | yes | yes | yes"
  pub blank_checked : (a e : FlashAddress) → Cells (BlankCheck a e) 0x00 0x00 0x00
  pub chip_erased : Cells EraseChip 0x00 0x00 0x00
  pub reset_started : Cells StartReset 0x00 0x00 0x00
  pub address_started : (a : FlashAddress) → Cells (StartAt a) 0x00 0x00 0x00
  pub version_read : Cells ReadVersion 0x00 0x00 0x00
  pub byte_read_lem : (i : ℕ) → Cells (ReadByte i) 0x00 0x00 0x00
  pub byte_written : (i v : ℕ) → (i ≡ 0x05 → ⊥) → Cells (WriteByte i v) 0x00 0x00 0x00
