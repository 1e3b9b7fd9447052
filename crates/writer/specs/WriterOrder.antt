-- 01's refusals 8 and 9, each with its cause in numbers, and what the writer leaves in its room, beside the definitions. Proved in
-- proofs/WriterOrderHolds.antt.
use Rattle.std.specs.Prelude.{◌⊎◌, ◌≡◌, true, List, [], ◌∷◌, ℕ, ◌+◌, ◌≤◌, ◌<◌, length, take, drop, Ok, Err}
use Rattle.words.specs.Words.{among}
use Rattle.command.specs.Ranges.{AddressRight}
use Rattle.command.specs.declared.command.Command.{Command}
use Rattle.command.specs.declared.command.Command.TheVariants.{ProgramFlash, ProgramEeprom, Read, BlankCheck, EraseBlock, EraseChip, WriteByte, WriteHsb}
use Rattle.command.specs.declared.command.Command.TheVariants.{StartReset, StartAt, ReadVersion, ReadByte, ReadHsb}
use Rattle.writer.specs.Writer.{WriteError, WrongCommand, TooShort, command_bytes, write_command, room_after, write_error_number, written_number, written_count}

-- "for program data not as long as the range or suffix not 16 bytes": not so
pub record PartsRight (a e : ℕ) (d s : List ℕ) : Type 0 where
  pub body_size : a + length d ≡ e + 1
  pub suffix_size_lem : length s ≡ 16

-- that, and "configuration index unknown": not so
abbrev pub CarriedRight : Command → List ℕ → List ℕ → Type 0
CarriedRight (ProgramFlash a e) d s = PartsRight a.0 e.0 d s
CarriedRight (ProgramEeprom a e) d s = PartsRight a.0 e.0 d s
CarriedRight (Read r) d s = Unit {0}
CarriedRight (BlankCheck a e) d s = Unit {0}
CarriedRight (EraseBlock k) d s = Unit {0}
CarriedRight EraseChip d s = Unit {0}
CarriedRight (WriteByte i v) d s = i ≤ 0x06
CarriedRight (WriteHsb v) d s = Unit {0}
CarriedRight StartReset d s = Unit {0}
CarriedRight (StartAt a) d s = Unit {0}
CarriedRight ReadVersion d s = Unit {0}
CarriedRight (ReadByte i) d s = (i ≤ 0x06) ⊎ (among i (0x30 ∷ 0x31 ∷ 0x60 ∷ 0x61 ∷ []) ≡ true)
CarriedRight ReadHsb d s = Unit {0}

-- what 8 asks for: "start after end, range outside its memory, more than 1,024 bytes to program or read, .. or start address above 7FFFh"
pub record Writable (k : Command) (d s : List ℕ) : Type 0 where
  pub address_right : AddressRight k
  pub carried_right : CarriedRight k d s

-- "The writer checks 8 before 9; refusing, it leaves its room unwritten, and otherwise the room past its answer."
pub record Order (k : Command) (d s room : List ℕ) : Type 0 where
  pub eight : (Writable k d s → ⊥) → (write_command k d s room ≡ Err WrongCommand) × (room_after k d s room ≡ room)
  pub nine : Writable k d s → length room < length (command_bytes k d s) → (write_command k d s room ≡ Err TooShort) × (room_after k d s room ≡ room)
  pub written : Writable k d s → length (command_bytes k d s) ≤ length room → let n : ℕ = length (command_bytes k d s) in
      (write_command k d s room ≡ Ok n) × (take n (room_after k d s room) ≡ command_bytes k d s) × (drop n (room_after k d s room) ≡ drop n room)
  -- the number and the count of an answer: 0 and how many bytes, or the refusal's number and 0
  pub written_told : (n : ℕ) → (written_number (Ok n) ≡ 0) × (written_count (Ok n) ≡ n)
  pub unwritten_8 : written_number (Err WrongCommand) ≡ 8
  pub unwritten_9 : written_number (Err TooShort) ≡ 9
  pub unwritten_told : (e : WriteError) → (written_number (Err e) ≡ write_error_number e) × (written_count (Err e) ≡ 0)

abbrev pub WriterOrder : Type 0
WriterOrder = (k : Command) (d s room : List ℕ) → Order k d s room
