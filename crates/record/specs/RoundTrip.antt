-- The record writer and the record reader undo each other. The statements are proved in proofs/RoundTripHolds.antt.
use Rattle.std.specs.Prelude.{if◌then◌else◌, ◌≡◌, List, [], ◌∷◌, ℕ, ◌-◌, ◌≤◌, ◌<◌, length, take, Ok}
use Rattle.words.specs.Words.{byte_at}
use Rattle.record.specs.Digits.{from_to}
use Rattle.record.specs.Record.{data_of}
use Rattle.record.specs.Reader.{Fields, reading}
use Rattle.record.specs.Writer.{write_record, room_written}

-- each is a byte
abbrev pub Bytes : List ℕ → Type 0
Bytes d = (i : ℕ) → byte_at d i < 256

-- what a writer can be handed
pub record Writable (offset kind : ℕ) (d : List ℕ) : Type 0 where
  pub offset_fits : offset < 65536
  pub kind_fits : kind < 256
  pub data_fits : Bytes d

-- the fields of a record
abbrev pub fields : ℕ → ℕ → ℕ → Fields
fields offset kind n = record { offset = offset; kind = kind; length = n }

-- the characters read as these fields and this data
pub record ReadsAs (cs : List ℕ) (offset kind : ℕ) (d : List ℕ) : Type 0 where
  pub fields_read : reading cs ≡ Ok (fields offset kind (length d))
  pub data_read_lem : data_of cs (length d) ≡ d

-- reading what was written gives the same fields
abbrev pub ReadsBack : Type 0
ReadsBack = (offset kind : ℕ) (d room : List ℕ) (n : ℕ) → Writable offset kind d → write_record offset kind d room ≡ Ok n
    → ReadsAs (take n (room_written offset kind d room)) offset kind d

-- a character in capitals
abbrev pub capital : ℕ → ℕ
capital c = if from_to 97 102 c then c - 32 else c

abbrev pub capitals : List ℕ → List ℕ
capitals [] = []
capitals (c ∷ cs) = capital c ∷ capitals cs

-- the writer, handed what the reader read, writes the characters
pub record WritesAs (cs : List ℕ) (f : Fields) (room : List ℕ) : Type 0 where
  pub answer : write_record f.offset f.kind (data_of cs f.length) room ≡ Ok (length cs)
  pub characters : take (length cs) (room_written f.offset f.kind (data_of cs f.length) room) ≡ capitals cs

-- a record that the reader takes is written back in capitals, character for character
abbrev pub WritesBack : Type 0
WritesBack = (cs : List ℕ) (f : Fields) → reading cs ≡ Ok f → (room : List ℕ) → length cs ≤ length room → WritesAs cs f room
