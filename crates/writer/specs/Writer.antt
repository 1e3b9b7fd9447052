-- The host's command writer. Assumes nothing: these are definitions.
use Rattle.std.specs.Prelude.{if◌then◌else◌, ◌≡◌, Bool, false, not, ◌||◌, List, [], ◌∷◌, ◌++◌, ℕ, ◌+◌, ◌-◌, ◌/◌, ◌%◌, ◌≤◌, eqb, ltb, length, take, replicate}
use Rattle.std.specs.Prelude.{Option, None, Some, Result, Ok, Err}
use Rattle.words.specs.Words.{overlay}
use Rattle.memory.specs.declared.address.Range.{Range}
use Rattle.memory.specs.declared.address.Range.TheVariants.{Flash, Eeprom}
use Rattle.memory.specs.Memory.{range_start, range_end}
use Rattle.config.specs.Config.{readable, writable}
use Rattle.command.specs.declared.command.Command.{Command}
use Rattle.command.specs.declared.command.Command.TheVariants.{ProgramFlash, ProgramEeprom, Read, BlankCheck, EraseBlock, EraseChip, WriteByte, WriteHsb}
use Rattle.command.specs.declared.command.Command.TheVariants.{StartReset, StartAt, ReadVersion, ReadByte, ReadHsb}
use Rattle.command.specs.Form.{block_code}
use Rattle.command.specs.Address.{bad_address}
use Rattle.command.specs.declared.transfer.Transfer.{Transfer}
use Rattle.command.specs.Transfer.{transfer_of, filler_size, suffix_size}
pub use Rattle.writer.specs.declared.head.Head.{Head}
pub use Rattle.writer.specs.declared.write.Tail.{Tail}
pub use Rattle.writer.specs.declared.write.WriteError.{WriteError}
pub use Rattle.writer.specs.declared.write.WriteError.TheVariants.{WrongCommand, TooShort}

-- what the writer answers: how many bytes it wrote, or why it wrote none
abbrev pub Written : Type 0
Written = Result ℕ WriteError

-- the paper's number of each error
abbrev pub write_error_number : WriteError → ℕ
write_error_number WrongCommand = 8
write_error_number TooShort = 9

-- the number of each answer, 0 where it refuses nothing, and how many bytes it wrote, 0 where it refused
abbrev pub written_number : Written → ℕ
written_number (Ok n) = 0
written_number (Err e) = write_error_number e

abbrev pub written_count : Written → ℕ
written_count (Ok n) = n
written_count (Err e) = 0

-- ---- the bytes of a command

-- "Addresses .. are high byte first": one address, and the two of a range
abbrev pub address_bytes : ℕ → List ℕ
address_bytes a = a / 256 ∷ a % 256 ∷ []

abbrev pub range_addresses : ℕ → ℕ → List ℕ
range_addresses a e = address_bytes a ++ address_bytes e

-- "03h, 00h flash or 02h EEPROM": the second byte of a read
abbrev pub read_code : Range → ℕ
read_code (Flash a e) = 0x00
read_code (Eeprom a e) = 0x02

-- "The writer puts zero in filler and pad."
abbrev pub zeros : ℕ → List ℕ
zeros n = replicate n 0x00

-- nothing follows
abbrev pub no_tail : Tail
no_tail = record { zeros = 0; body = 0; suffix = 0 }

-- the rows of the table; of a program transfer, what stands before its filler
unfoldable pub head_bytes : Command → List ℕ
head_bytes (ProgramFlash a e) = 0x01 ∷ 0x00 ∷ range_addresses a.0 e.0
head_bytes (ProgramEeprom a e) = 0x01 ∷ 0x01 ∷ range_addresses a.0 e.0
head_bytes (Read r) = 0x03 ∷ read_code r ∷ range_addresses (range_start r) (range_end r)
head_bytes (BlankCheck a e) = 0x03 ∷ 0x01 ∷ range_addresses a.0 e.0
head_bytes (EraseBlock k) = 0x04 ∷ 0x00 ∷ block_code k ∷ []
head_bytes EraseChip = 0x04 ∷ 0x00 ∷ 0xFF ∷ []
head_bytes (WriteByte i v) = 0x04 ∷ 0x01 ∷ i ∷ v ∷ []
head_bytes (WriteHsb v) = 0x04 ∷ 0x02 ∷ 0x00 ∷ v ∷ []
head_bytes StartReset = 0x04 ∷ 0x03 ∷ 0x00 ∷ []
head_bytes (StartAt a) = 0x04 ∷ 0x03 ∷ 0x01 ∷ address_bytes a.0
head_bytes ReadVersion = 0x05 ∷ 0x00 ∷ 0x00 ∷ []
head_bytes (ReadByte i) = 0x05 ∷ 0x01 ∷ i ∷ []
head_bytes ReadHsb = 0x05 ∷ 0x02 ∷ 0x00 ∷ []

-- how many zeros, bytes of the body and bytes of the suffix follow: none but in a program transfer. d and s are as many as given
abbrev pub transfer_tail : Option Transfer → ℕ → ℕ → Tail
transfer_tail (Some t) d s = record { zeros = filler_size + t.pad; body = d; suffix = s }
transfer_tail None d s = no_tail

abbrev pub tail_for : Command → ℕ → ℕ → Tail
tail_for k d s = transfer_tail (transfer_of k) d s

-- ---- the same, as the code holds it

-- the head is the first bytes of six
abbrev pub headed : ℕ → ℕ → ℕ → ℕ → ℕ → ℕ → ℕ → Head
headed n a b c d e f = record { bytes = a ∷ b ∷ c ∷ d ∷ e ∷ f ∷ []; size = n }

abbrev pub range_head : ℕ → ℕ → ℕ → ℕ → Head
range_head group code a e = headed 6 group code (a / 256) (a % 256) (e / 256) (e % 256)

abbrev pub head_of : Command → Head
head_of k = record { bytes = head_bytes k ++ replicate (6 - length (head_bytes k)) 0x00; size = length (head_bytes k) }

-- what is put: head, zeros, body and suffix
unfoldable pub put_bytes : Head → Tail → List ℕ → List ℕ → List ℕ
put_bytes h t d s = take h.size h.bytes ++ zeros t.zeros ++ take t.body d ++ take t.suffix s

-- no part is longer than what it is taken from, or than a command can have
pub record Put (h : Head) (t : Tail) (d s : List ℕ) : Type 0 where
  pub head_fits : h.size ≤ 6
  pub head_whole : length h.bytes ≡ 6
  pub zeros_fit : t.zeros ≤ 57
  pub body_fits : t.body ≤ length d
  pub body_short : t.body ≤ 65536
  pub suffix_fits : t.suffix ≤ length s
  pub suffix_short : t.suffix ≤ suffix_size

-- 9: "writer: room too short"; "refusing, it leaves its room unwritten, and otherwise the room past its answer"
unfoldable pub put_answer : List ℕ → List ℕ → Written
put_answer bytes room = if ltb (length room) (length bytes) then Err TooShort else Ok (length bytes)

unfoldable pub put_room : List ℕ → List ℕ → List ℕ
put_room bytes room = if ltb (length room) (length bytes) then room else overlay 0 bytes room

-- ---- the whole: d the body and s the suffix of a program transfer

unfoldable pub command_bytes : Command → List ℕ → List ℕ → List ℕ
command_bytes k d s =
    let t : Tail = tail_for k (length d) (length s) in
    head_bytes k ++ zeros t.zeros ++ take t.body d ++ take t.suffix s

-- ---- its refusals

-- "for program data not as long as the range or suffix not 16 bytes"; d and s bytes of data and suffix
abbrev pub bad_parts : Option Transfer → ℕ → ℕ → Bool
bad_parts (Some t) d s = not (eqb d t.bytes) || not (eqb s suffix_size)
bad_parts None d s = false

-- that, of a program transfer; of a byte, "configuration index unknown"
abbrev pub bad_write : Command → ℕ → ℕ → Bool
bad_write (ProgramFlash a e) d s = bad_parts (transfer_of (ProgramFlash a e)) d s
bad_write (ProgramEeprom a e) d s = bad_parts (transfer_of (ProgramEeprom a e)) d s
bad_write (Read r) d s = false
bad_write (BlankCheck a e) d s = false
bad_write (EraseBlock k) d s = false
bad_write EraseChip d s = false
bad_write (WriteByte i v) d s = not (writable i)
bad_write (WriteHsb v) d s = false
bad_write StartReset d s = false
bad_write (StartAt a) d s = false
bad_write ReadVersion d s = false
bad_write (ReadByte i) d s = not (readable i)
bad_write ReadHsb d s = false

-- 8: "writer: start after end, range outside its memory, more than 1,024 bytes to program or read, .. or start address above 7FFFh"
abbrev pub cannot_write : Command → List ℕ → List ℕ → Bool
cannot_write k d s = bad_address k || bad_write k (length d) (length s)

-- "The writer checks 8 before 9"
unfoldable pub write_command : Command → List ℕ → List ℕ → List ℕ → Written
write_command k d s room = if cannot_write k d s then Err WrongCommand else put_answer (command_bytes k d s) room

unfoldable pub room_after : Command → List ℕ → List ℕ → List ℕ → List ℕ
room_after k d s room = if cannot_write k d s then room else put_room (command_bytes k d s) room
