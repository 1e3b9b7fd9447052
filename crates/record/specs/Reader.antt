-- The record reader. Assumes nothing: these are definitions.
use Rattle.std.specs.Prelude.{if◌then◌else◌, ◌≡◌, Bool, true, ◌&&◌, List, [], ℕ, ◌-◌, ◌/◌, ◌%◌, min, eqb, ltb, length, drop}
use Rattle.std.specs.Prelude.{Option, None, Some, Result, Ok, Err}
use Rattle.words.specs.Words.{byte_at, high_first, overlay}
use Rattle.record.specs.Digits.{digit_value, is_digit, all_digits}
use Rattle.record.specs.Record.{record_mark, most_data, character_count, sum, bytes_of, data_of}
pub use Rattle.record.specs.declared.fields.Fields.{Fields}
pub use Rattle.record.specs.declared.reader.ReadError.{ReadError}
pub use Rattle.record.specs.declared.reader.ReadError.TheVariants.{WrongChecksum, BadRecord, TooShort}

-- what the reader answers: the fields of a record, or why there are none
abbrev pub Reading : Type 0
Reading = Result Fields ReadError

-- "Record length specifies the number of Bytes of information or data which follows the Record Type field."
abbrev pub length_field : List ℕ → ℕ
length_field cs = byte_at (bytes_of cs) 0

-- P2 of 02: "a character that is no hex digit or a record of wrong length" is what a record may not have; its mark is no digit
abbrev pub well_formed : List ℕ → Bool
well_formed cs = eqb (byte_at cs 0) record_mark && all_digits (drop 1 cs) && eqb (length cs) (character_count (length_field cs))

-- "the sum of all the ASCII pairs in a record .. is zero"
abbrev pub sums_to_zero : List ℕ → Bool
sums_to_zero cs = eqb (sum (bytes_of cs) % 256) 0

-- "Record Mark ':' | Record length | Load Offset | Record Type | Data or Info | Checksum"
abbrev pub fields_of : List ℕ → Fields
fields_of cs = record { offset = high_first (bytes_of cs) 1; kind = byte_at (bytes_of cs) 3; length = length_field cs }

-- P2 of 02: "then 17 for a character that is no hex digit or a record of wrong length; then `X` for a wrong checksum"
unfoldable pub reading : List ℕ → Reading
reading cs =
    if well_formed cs then (if sums_to_zero cs then Ok (fields_of cs) else Err WrongChecksum) else
    Err BadRecord

-- the paper's number of each error, and 1 for `X`, which has no number: no record is refused with 1
abbrev pub read_error_number : ReadError → ℕ
read_error_number WrongChecksum = 1
read_error_number BadRecord = 17
read_error_number TooShort = 9

-- the bytes of data that come with each answer
abbrev pub data_read : Reading → List ℕ → List ℕ
data_read (Ok f) cs = data_of cs f.length
data_read (Err e) cs = []

-- what the reader answers where the data goes into a room: 9, "room too short", comes last
unfoldable pub read_record : List ℕ → List ℕ → Reading
read_record cs room = if ltb (length room) (length (data_read (reading cs) cs)) then Err TooShort else reading cs

-- "refusing, it leaves its room unwritten, and otherwise the room past its answer"
unfoldable pub room_read : List ℕ → List ℕ → List ℕ
room_read cs room =
    if ltb (length room) (length (data_read (reading cs) cs)) then room else
    overlay 0 (data_read (reading cs) cs) room

-- the number of each answer: 0 where the record is taken, and else the error's
abbrev pub reading_number : Reading → ℕ
reading_number (Ok f) = 0
reading_number (Err e) = read_error_number e

-- ---- the steps of the code

-- what the table says of a character
abbrev pub digit_read : ℕ → Option ℕ
digit_read c = if is_digit c then Some (digit_value c) else None

-- what the pairs after the mark come to, as the code adds them up
abbrev pub pairs_read : List ℕ → Option ℕ
pairs_read cs = if all_digits (drop 1 cs) then Some (sum (bytes_of cs) % 256) else None

-- and what they leave in a memory that was lent for their bytes, where each character is a digit
abbrev pub Held : List ℕ → List ℕ → List ℕ → Type 0
Held cs before after = all_digits (drop 1 cs) ≡ true → after ≡ overlay 0 (bytes_of cs) before

-- the only count of bytes with which a record can have so many characters
abbrev pub data_count : ℕ → ℕ
data_count k = min ((k - character_count 0) / 2) most_data
