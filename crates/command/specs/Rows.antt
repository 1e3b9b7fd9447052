-- 01's table of commands, row by row, in bytes, beside the definition of `form`. Proved in proofs/RowsHold.antt.
use Rattle.std.specs.Prelude.{◌≡◌, List, [], ◌∷◌, ℕ, ◌+◌, ◌*◌, ◌≤◌, ◌<◌, Some}
use Rattle.words.specs.Words.{byte_at}
use Rattle.memory.specs.Memory.{flash_address, eeprom_address}
use Rattle.memory.specs.declared.address.Range.TheVariants.{Flash, Eeprom}
use Rattle.memory.specs.declared.address.Block.TheVariants.{Low, Middle, High}
use Rattle.command.specs.Form.{form, Command, ProgramFlash, ProgramEeprom, Read, BlankCheck, EraseBlock, EraseChip, WriteByte, WriteHsb}
use Rattle.command.specs.Form.{StartReset, StartAt, ReadVersion, ReadByte, ReadHsb}

-- each is a byte
abbrev pub Bytes : List ℕ → Type 0
Bytes p = (i : ℕ) → byte_at p i < 256

-- the table: these bytes mean this command; "Addresses .. are high byte first"
pub data Row : List ℕ → Command → Type 0 where
  -- "01h, 00h flash or 01h EEPROM, start, end, then the rest | program"
  program_flash_lem : (a b c d : ℕ) (rest : List ℕ)
      → Row (0x01 ∷ 0x00 ∷ a ∷ b ∷ c ∷ d ∷ rest) (ProgramFlash (flash_address (a * 256 + b)) (flash_address (c * 256 + d)))
  program_eeprom_lem : (a b c d : ℕ) (rest : List ℕ)
      → Row (0x01 ∷ 0x01 ∷ a ∷ b ∷ c ∷ d ∷ rest) (ProgramEeprom (eeprom_address (a * 256 + b)) (eeprom_address (c * 256 + d)))
  -- "03h, 00h flash or 02h EEPROM, start, end | read"
  read_flash : (a b c d : ℕ) → Row (0x03 ∷ 0x00 ∷ a ∷ b ∷ c ∷ d ∷ []) (Read (Flash (flash_address (a * 256 + b)) (flash_address (c * 256 + d))))
  read_eeprom : (a b c d : ℕ) → Row (0x03 ∷ 0x02 ∷ a ∷ b ∷ c ∷ d ∷ []) (Read (Eeprom (eeprom_address (a * 256 + b)) (eeprom_address (c * 256 + d))))
  -- "03h, 01h, start, end | blank check of flash"
  blank_check : (a b c d : ℕ) → Row (0x03 ∷ 0x01 ∷ a ∷ b ∷ c ∷ d ∷ []) (BlankCheck (flash_address (a * 256 + b)) (flash_address (c * 256 + d)))
  -- "04h, 00h, 00h / 20h / 40h / FFh | erase 0000h-1FFFh / 2000h-3FFFh / 4000h-7FFFh / full chip"
  erase_low : Row (0x04 ∷ 0x00 ∷ 0x00 ∷ []) (EraseBlock Low)
  erase_middle : Row (0x04 ∷ 0x00 ∷ 0x20 ∷ []) (EraseBlock Middle)
  erase_high : Row (0x04 ∷ 0x00 ∷ 0x40 ∷ []) (EraseBlock High)
  erase_chip : Row (0x04 ∷ 0x00 ∷ 0xFF ∷ []) EraseChip
  -- "04h, 01h, index 00h-06h, value | write configuration byte"
  write_byte : (i v : ℕ) → i ≤ 0x06 → Row (0x04 ∷ 0x01 ∷ i ∷ v ∷ []) (WriteByte i v)
  -- "04h, 02h, 00h, value | write HSB"
  write_hsb : (v : ℕ) → Row (0x04 ∷ 0x02 ∷ 0x00 ∷ v ∷ []) (WriteHsb v)
  -- "04h, 03h, 00h or 04h, 03h, 01h, address | start by reset, or at address"
  start_reset : Row (0x04 ∷ 0x03 ∷ 0x00 ∷ []) StartReset
  start_at : (a b : ℕ) → Row (0x04 ∷ 0x03 ∷ 0x01 ∷ a ∷ b ∷ []) (StartAt (flash_address (a * 256 + b)))
  -- "05h, 00h, 00h | read version"
  read_version : Row (0x05 ∷ 0x00 ∷ 0x00 ∷ []) ReadVersion
  -- "05h, 01h, index 00h-06h, 30h, 31h, 60h, 61h | read a byte (manufacturer, family, product, revision last)"
  read_byte : (i : ℕ) → i ≤ 0x06 → Row (0x05 ∷ 0x01 ∷ i ∷ []) (ReadByte i)
  read_manufacturer : Row (0x05 ∷ 0x01 ∷ 0x30 ∷ []) (ReadByte 0x30)
  read_family : Row (0x05 ∷ 0x01 ∷ 0x31 ∷ []) (ReadByte 0x31)
  read_product : Row (0x05 ∷ 0x01 ∷ 0x60 ∷ []) (ReadByte 0x60)
  read_revision : Row (0x05 ∷ 0x01 ∷ 0x61 ∷ []) (ReadByte 0x61)
  -- "05h, 02h, 00h | read HSB"
  read_hsb_lem : Row (0x05 ∷ 0x02 ∷ 0x00 ∷ []) ReadHsb

-- the form is as the table says
abbrev pub RowsRead : Type 0
RowsRead = (d : List ℕ) (k : Command) → Row d k → form d ≡ Some k

-- "Lengths are exact; unlisted codes and lengths stall.": bytes that have a form stand in the table
abbrev pub OnlyRows : Type 0
OnlyRows = (d : List ℕ) (k : Command) → Bytes d → form d ≡ Some k → Row d k
