-- The paper's table of levels: a row for what a command does, a column for each level. Assumes nothing: these are definitions.
use Rattle.std.specs.Prelude.{if◌then◌else◌, [], ◌∷◌, ℕ, eqb}
use Rattle.words.specs.Words.{among}
use Rattle.config.specs.Config.{ssb_index}
use Rattle.config.specs.declared.level.Level.{Level}
use Rattle.config.specs.declared.level.Level.TheVariants.{L0, L1, L2}
use Rattle.command.specs.declared.command.Command.{Command}
use Rattle.command.specs.declared.command.Command.TheVariants.{ProgramFlash, ProgramEeprom, Read, BlankCheck, EraseBlock, EraseChip, WriteByte, WriteHsb}
use Rattle.command.specs.declared.command.Command.TheVariants.{StartReset, StartAt, ReadVersion, ReadByte, ReadHsb}

-- "program flash or EEPROM, block erase, write HSB"; "read flash or EEPROM, read HSB"; "write SSB", with its value; the last row
pub data Row : Type 0 where
  WriteRow : Row
  ReadRow : Row
  SsbRow : ℕ → Row
  FreeRow : Row

abbrev pub row_of : Command → Row
row_of (ProgramFlash a e) = WriteRow
row_of (ProgramEeprom a e) = WriteRow
row_of (EraseBlock k) = WriteRow
row_of (WriteHsb v) = WriteRow
row_of (Read r) = ReadRow
row_of ReadHsb = ReadRow
row_of (WriteByte i v) = if eqb i ssb_index then SsbRow v else FreeRow
row_of (BlankCheck a e) = FreeRow
row_of EraseChip = FreeRow
row_of StartReset = FreeRow
row_of (StartAt a) = FreeRow
row_of ReadVersion = FreeRow
row_of (ReadByte i) = FreeRow

-- a cell: the status that it gives, 00h for yes; "An SSB value not in its cell gives 03h."
abbrev pub cell : Row → Level → ℕ
cell WriteRow L0 = 0x00
cell WriteRow L1 = 0x03
cell WriteRow L2 = 0x03
cell ReadRow L0 = 0x00
cell ReadRow L1 = 0x00
cell ReadRow L2 = 0x0B
cell (SsbRow v) L0 = if among v (0xFE ∷ 0xFC ∷ []) then 0x00 else 0x03
cell (SsbRow v) L1 = if among v (0xFC ∷ []) then 0x00 else 0x03
cell (SsbRow v) L2 = 0x03
cell FreeRow l = 0x00

-- what the level says to a command
abbrev pub level_status : Command → Level → ℕ
level_status k l = cell (row_of k) l
