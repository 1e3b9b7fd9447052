-- The host's writer and the loader's reader undo each other. The statements are proved in proofs/RoundTripHolds.antt.
use Rattle.std.specs.Prelude.{◌≡◌, List, [], ℕ, ◌-◌, ◌≤◌, ◌<◌, length, take, drop, Ok}
use Rattle.words.specs.Words.{byte_at}
use Rattle.command.specs.declared.command.Command.{Command}
use Rattle.command.specs.declared.command.Command.TheVariants.{ProgramFlash, ProgramEeprom, Read, BlankCheck, EraseBlock, EraseChip, WriteByte, WriteHsb}
use Rattle.command.specs.declared.command.Command.TheVariants.{StartReset, StartAt, ReadVersion, ReadByte, ReadHsb}
use Rattle.command.specs.Transfer.{padding, body_place}
use Rattle.command.specs.declared.reader.Parts.{Parts}
use Rattle.command.specs.Reader.{parts_of, read_command}
pub use Rattle.command.specs.Rows.{Bytes}
use Rattle.writer.specs.Writer.{write_command, room_after}

-- where the reader says that body and suffix lie
abbrev pub body_at : Parts → List ℕ → List ℕ
body_at p d = take (p.suffix - p.body) (drop p.body d)

abbrev pub suffix_at : Parts → List ℕ → List ℕ
suffix_at p d = drop p.suffix d

-- what a command carries of the bytes that the writer was handed with it: a program transfer all, any other nothing
abbrev pub carried : Command → List ℕ → List ℕ
carried (ProgramFlash a e) x = x
carried (ProgramEeprom a e) x = x
carried (Read r) x = []
carried (BlankCheck a e) x = []
carried (EraseBlock k) x = []
carried EraseChip x = []
carried (WriteByte i v) x = []
carried (WriteHsb v) x = []
carried StartReset x = []
carried (StartAt a) x = []
carried ReadVersion x = []
carried (ReadByte i) x = []
carried ReadHsb x = []

-- the data p reads as the command k with the body d and the suffix s
pub record ReadsAs (p : List ℕ) (k : Command) (d s : List ℕ) : Type 0 where
  pub command : read_command p ≡ Ok (k, parts_of k p)
  pub body : body_at (parts_of k p) p ≡ d
  pub suffix : suffix_at (parts_of k p) p ≡ s

-- "Reading what it wrote gives the same command, data and suffix."
abbrev pub ReadsBack : Type 0
ReadsBack = (k : Command) (d s room : List ℕ) (n : ℕ) → write_command k d s room ≡ Ok n
    → ReadsAs (take n (room_after k d s room)) k (carried k d) (carried k s)

-- "with zero filler and pad": a transfer from the address a on, in either memory; no other command has any
abbrev pub ZeroPadded : ℕ → List ℕ → Type 0
ZeroPadded a p = (i : ℕ) → 6 ≤ i → i < body_place (padding a) → byte_at p i ≡ 0

abbrev pub ZeroFilled : Command → List ℕ → Type 0
ZeroFilled (ProgramFlash a e) p = ZeroPadded a.0 p
ZeroFilled (ProgramEeprom a e) p = ZeroPadded a.0 p
ZeroFilled (Read r) p = Unit {0}
ZeroFilled (BlankCheck a e) p = Unit {0}
ZeroFilled (EraseBlock k) p = Unit {0}
ZeroFilled EraseChip p = Unit {0}
ZeroFilled (WriteByte i v) p = Unit {0}
ZeroFilled (WriteHsb v) p = Unit {0}
ZeroFilled StartReset p = Unit {0}
ZeroFilled (StartAt a) p = Unit {0}
ZeroFilled ReadVersion p = Unit {0}
ZeroFilled (ReadByte i) p = Unit {0}
ZeroFilled ReadHsb p = Unit {0}

-- the writer, handed what the reader read, writes the data back "byte for byte"
pub record WritesAs (p : List ℕ) (k : Command) (room : List ℕ) : Type 0 where
  pub answer : write_command k (body_at (parts_of k p) p) (suffix_at (parts_of k p) p) room ≡ Ok (length p)
  pub bytes : take (length p) (room_after k (body_at (parts_of k p) p) (suffix_at (parts_of k p) p) room) ≡ p

-- "A payload that a level 0 board in state 2 answers without stall or 08h, with zero filler and pad, is written back byte for
-- byte.": here, a payload that the reader takes; the loader's crate says that those are the same
abbrev pub WritesBack : Type 0
WritesBack = (p : List ℕ) (k : Command) → Bytes p → read_command p ≡ Ok (k, parts_of k p) → ZeroFilled k p
    → (room : List ℕ) → length p ≤ length room → WritesAs p k room
