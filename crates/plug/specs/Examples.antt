-- 002's examples, each record with the command that it is. Proved in proofs/ExamplesHold.antt. Two of them can't hold as they stand:
-- `X` with a doubled line end, against every list of answers, and the version's record, whose type 01h is in no table.
use Rattle.std.specs.Prelude.{◌≡◌, List, [], ◌∷◌, ◌++◌, ℕ, Option, None, Some, Ok, Err}
use Rattle.memory.specs.Memory.{flash_address}
use Rattle.lines.specs.Text.{ascii}
use Rattle.record.specs.Reader.{Reading, reading, data_read}
use Rattle.record.specs.declared.reader.ReadError.TheVariants.{WrongChecksum}
use Rattle.plug.specs.Config.{SsbLevel2, ToBsb, Sbv, Fixed, bootloader_version}
use Rattle.plug.specs.Levels.{Command, Program, Display, BlankCheck, EraseBlock, EraseChip, Write, Read, StartReset, StartAt}
use Rattle.plug.specs.Commands.{Block1, form}
use Rattle.plug.specs.Answers.{blank_text, value_text, display_line, display_text, line_end}

-- the command of a record that is taken
abbrev pub command_in : Reading → List ℕ → Option Command
command_in (Ok f) d = form f.kind f.offset d
command_in (Err e) d = None

abbrev pub command_of : List ℕ → Option Command
command_of cs = command_in (reading cs) (data_read (reading cs) cs)

pub record Examples : Type 0 where
  -- "write 55h at address 0010h in the Flash"
  pub programming : command_of (ascii ":01001000559A") ≡ Some (Program (flash_address 0x0010))
  pub programmed_data : data_read (reading (ascii ":01001000559A")) (ascii ":01001000559A") ≡ 0x55 ∷ []
  -- "Blank Check ok", "Blank Check ok at address xxxx"
  pub blank_check : command_of (ascii ":0500000400007FFF0178") ≡ Some (BlankCheck (flash_address 0x0000) (flash_address 0x7FFF))
  pub blank_ok : blank_text None ≡ ascii "." ++ line_end
  pub blank_at : blank_text (Some 0x1234) ≡ ascii "1234" ++ line_end
  -- "Blank Check with checksum error"
  pub checksum_error : reading (ascii ":0500000400007FFF0170") ≡ Err WrongChecksum
  -- "Display data from address 0000h to 0020h": lines of 16, 16 and 1 data
  pub display : command_of (ascii ":0500000400000020" ++ ascii "00D7") ≡ Some (Display (flash_address 0x0000) (flash_address 0x0020))
  pub display_lines_lem : (f : List ℕ) →
      display_text 0x0000 0x0020 f ≡ display_line 0x0000 0x000F f ++ (display_line 0x0010 0x001F f ++ (display_line 0x0020 0x0020 f ++ []))
  -- lines go from the start address on, wherever that is
  pub display_from_0009 : (f : List ℕ) →
      display_text 0x0009 0x0020 f ≡ display_line 0x0009 0x0018 f ++ (display_line 0x0019 0x0020 f ++ [])
  -- "write SSB to level 2", "write BSB to 55h", "read SBV"
  pub ssb_to_level_2 : command_of (ascii ":020000030501F5") ≡ Some (Write SsbLevel2)
  pub bsb_to_55 : command_of (ascii ":03000003060055" ++ ascii "9F") ≡ Some (Write (ToBsb 0x55))
  pub read_sbv : command_of (ascii ":020000050702F0") ≡ Some (Read Sbv)
  pub sbv_value : value_text 0xF0 ≡ ascii "F0." ++ line_end
  -- "read bootloader version": the example's type is in no table; the table's record is
  pub version_example : command_of (ascii ":020000010200FB") ≡ None
  pub version : command_of (ascii ":020000050F00EA") ≡ Some (Read (Fixed bootloader_version))
  -- "Full Chip Erase", "Erase Block1(8k to 16k)"
  pub full_chip_erase : command_of (ascii ":0100000307F5") ≡ Some EraseChip
  pub erase_block_1 : command_of (ascii ":020000030120DA") ≡ Some (EraseBlock Block1)
  -- "Start Application with reset pulse", "without reset at address 0000h"
  pub start_reset : command_of (ascii ":020000030300F8") ≡ Some StartReset
  pub start_at : command_of (ascii ":0400000303010000F5") ≡ Some (StartAt (flash_address 0x0000))
