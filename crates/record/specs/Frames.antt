-- P2's digits and 002's frame, character by character: what the reader takes and refuses, and what the writer does. Proved in
-- proofs/FramesHold.antt.
use Rattle.std.specs.Prelude.{◌≡◌, true, false, List, [], ◌∷◌, ◌++◌, ℕ, suc, ◌+◌, ◌*◌, ◌%◌, ◌≤◌, ◌<◌, length, drop, Ok, Err}
use Rattle.words.specs.Words.{byte_at}
use Rattle.lines.specs.Text.{ascii}
use Rattle.record.specs.Digits.{no_digit, digit_value, is_digit, all_digits, characters, tabled}
use Rattle.record.specs.Record.{sum, bytes_of, record_of, data_of}
use Rattle.record.specs.Reader.{Fields, WrongChecksum, BadRecord, TooShort, length_field, well_formed, reading, read_record, room_read}
use Rattle.record.specs.Reader.{read_error_number, reading_number}
use Rattle.record.specs.Writer.{write_record, room_written, write_error_number, written_number, written_count}
use Rattle.record.specs.declared.writer.WriteError.{WriteError}
use Rattle.record.specs.declared.writer.WriteError.TheVariants as W
use Rattle.record.specs.RoundTrip.{fields}

-- three bytes for 1234h, of type 05h. The bytes before the checksum come to 154h, and ACh makes that 200h
abbrev pub some_record : List ℕ
some_record = ascii ":0312340506AB55AC"

abbrev pub some_data : List ℕ
some_data = 0x06 ∷ 0xAB ∷ 0x55 ∷ []

pub record Frames : Type 0 where
  -- the characters 30h to 39h, 41h to 46h and 61h to 66h: 0 to 9, A to F, and "small letters are accepted"
  pub digits : tabled digit_value 0x30 10 ≡ 0 ∷ 1 ∷ 2 ∷ 3 ∷ 4 ∷ 5 ∷ 6 ∷ 7 ∷ 8 ∷ 9 ∷ []
  pub letters : tabled digit_value 0x41 6 ≡ 10 ∷ 11 ∷ 12 ∷ 13 ∷ 14 ∷ 15 ∷ []
  pub small_letters : tabled digit_value 0x61 6 ≡ 10 ∷ 11 ∷ 12 ∷ 13 ∷ 14 ∷ 15 ∷ []
  pub are_digits : (c : ℕ) → 0x30 ≤ c → c ≤ 0x39 → is_digit c ≡ true
  pub are_letters : (c : ℕ) → 0x41 ≤ c → c ≤ 0x46 → is_digit c ≡ true
  pub are_small : (c : ℕ) → 0x61 ≤ c → c ≤ 0x66 → is_digit c ≡ true
  -- "array of 256 bytes": every character has its entry, one after another; and no other is a digit
  pub all_characters : characters ≡ 256
  pub no_digit_is : no_digit ≡ 0xFF
  pub entry : (f : ℕ → ℕ) (i n : ℕ) → tabled f i (suc n) ≡ f i ∷ tabled f (suc i) n
  pub no_entry : (f : ℕ → ℕ) (i : ℕ) → tabled f i 0 ≡ []
  pub marked : (c : ℕ) → is_digit c ≡ false → digit_value c ≡ 0xFF
  pub none_below : (c : ℕ) → c < 0x30 → is_digit c ≡ false
  pub none_to_letters : (c : ℕ) → 0x39 < c → c < 0x41 → is_digit c ≡ false
  pub none_to_small : (c : ℕ) → 0x46 < c → c < 0x61 → is_digit c ≡ false
  pub none_above : (c : ℕ) → 0x66 < c → is_digit c ≡ false
  -- "Record Mark ':' | Record length | Load Offset | Record Type | Data or Info | Checksum"
  pub written : record_of 0x1234 0x05 some_data ≡ some_record
  pub taken : reading some_record ≡ Ok (fields 0x1234 0x05 3)
  pub data_taken : data_of some_record 3 ≡ some_data
  -- "small letters are accepted", in a whole record
  pub small_taken : reading (ascii ":0312340506ab55ac") ≡ Ok (fields 0x1234 0x05 3)
  pub small_data_taken : data_of (ascii ":0312340506ab55ac") 3 ≡ some_data
  -- "17 for a character that is no hex digit or a record of wrong length": the mark, a digit; no data, a character less and more, a byte
  -- less and more than the record length says
  pub no_mark : reading (ascii ";0312340506AB55AC") ≡ Err BadRecord
  pub no_digit_lem : reading (ascii ":0312340506AG55AC") ≡ Err BadRecord
  pub nothing : reading [] ≡ Err BadRecord
  pub character_less : reading (ascii ":0312340506AB55A") ≡ Err BadRecord
  pub character_more : reading (ascii ":0312340506AB55AC0") ≡ Err BadRecord
  pub byte_less : reading (ascii ":0312340506AB55") ≡ Err BadRecord
  pub byte_more : reading (ascii ":0312340506AB55AC00") ≡ Err BadRecord
  -- "then `X` for a wrong checksum"
  pub wrong_sum : reading (ascii ":0312340506AB55AD") ≡ Err WrongChecksum
  -- of every record: its first character is no mark, one after it is no digit, or there are not two for each byte and one
  pub all_right : (cs : List ℕ) → byte_at cs 0 ≡ 0x3A → all_digits (drop 1 cs) ≡ true → length cs ≡ 11 + 2 * length_field cs → well_formed cs ≡ true
  pub no_more_digits : all_digits [] ≡ true
  pub digits_on : (c : ℕ) (cs : List ℕ) → is_digit c ≡ true → all_digits (c ∷ cs) ≡ all_digits cs
  pub bad_mark : (cs : List ℕ) → (byte_at cs 0 ≡ 0x3A → ⊥) → well_formed cs ≡ false
  pub bad_digit : (cs : List ℕ) (i : ℕ) → 1 ≤ i → i < length cs → is_digit (byte_at cs i) ≡ false → well_formed cs ≡ false
  pub bad_length_lem : (cs : List ℕ) → (length cs ≡ 11 + 2 * length_field cs → ⊥) → well_formed cs ≡ false
  -- these come first, whatever the sum and the room; then `X`; 9, "room too short", comes last. "refusing, it leaves its room unwritten,
  -- and otherwise the room past its answer"
  pub malformed : (cs room : List ℕ) → well_formed cs ≡ false → (read_record cs room ≡ Err BadRecord) × (room_read cs room ≡ room)
  pub sum_before_room : (cs room : List ℕ) → well_formed cs ≡ true → (sum (bytes_of cs) % 256 ≡ 0 → ⊥)
      → (read_record cs room ≡ Err WrongChecksum) × (room_read cs room ≡ room)
  pub room_short : (cs room : List ℕ) (f : Fields) → reading cs ≡ Ok f → length room < f.length
      → (read_record cs room ≡ Err TooShort) × (room_read cs room ≡ room)
  pub room_right : (cs room : List ℕ) (f : Fields) → reading cs ≡ Ok f → f.length ≤ length room
      → (read_record cs room ≡ Ok f) × (room_read cs room ≡ data_of cs f.length ++ drop f.length room)
  -- the writer: 17 for more than 255 bytes of data, then 9 for a room of fewer characters than a mark and two for each byte
  pub too_much : (offset kind : ℕ) (d room : List ℕ) → 255 < length d
      → (write_record offset kind d room ≡ Err W.BadRecord) × (room_written offset kind d room ≡ room)
  pub no_room : (offset kind : ℕ) (d room : List ℕ) → length d ≤ 255 → length room < 11 + 2 * length d
      → (write_record offset kind d room ≡ Err W.TooShort) × (room_written offset kind d room ≡ room)
  pub enough_room : (offset kind : ℕ) (d room : List ℕ) → length d ≤ 255 → 11 + 2 * length d ≤ length room
      → (write_record offset kind d room ≡ Ok (11 + 2 * length d))
      × (room_written offset kind d room ≡ record_of offset kind d ++ drop (11 + 2 * length d) room)
  -- the number of each answer: 0 where nothing is refused, 1 for `X`, and else the refusal's
  pub taken_0 : (f : Fields) → reading_number (Ok f) ≡ 0
  pub wrong_1 : (read_error_number WrongChecksum ≡ 1) × (reading_number (Err WrongChecksum) ≡ 1)
  pub refused_17 : (read_error_number BadRecord ≡ 17) × (reading_number (Err BadRecord) ≡ 17)
  pub refused_9 : (read_error_number TooShort ≡ 9) × (reading_number (Err TooShort) ≡ 9)
  pub wrote_0 : (n : ℕ) → (written_number (Ok n) ≡ 0) × (written_count (Ok n) ≡ n)
  pub unwritten_17 : (write_error_number W.BadRecord ≡ 17) × (written_number (Err W.BadRecord) ≡ 17)
  pub unwritten_9 : (write_error_number W.TooShort ≡ 9) × (written_number (Err W.TooShort) ≡ 9)
  pub unwritten_0 : (e : WriteError) → written_count (Err e) ≡ 0
