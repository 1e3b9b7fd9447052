-- 002's frame, of every record, in numbers: which bytes its characters are, what each byte is, and the checksum. Proved in
-- proofs/FrameBytesHold.antt.
use Rattle.std.specs.Prelude.{◌↔◌, ◌≡◌, true, List, [], ◌∷◌, ◌++◌, ℕ, ◌+◌, ◌*◌, ◌/◌, ◌%◌, ◌<◌, length, take, drop, Ok}
use Rattle.words.specs.Words.{byte_at}
use Rattle.lines.specs.Text.{hex_bytes}
use Rattle.record.specs.Digits.{digit_value}
use Rattle.record.specs.Record.{pairs, sum, checksum, record_of, bytes_of, data_of}
use Rattle.record.specs.Reader.{length_field, well_formed, sums_to_zero, fields_of, reading}
use Rattle.record.specs.RoundTrip.{fields}

pub record FrameBytes : Type 0 where
  -- "converting each pair of ASCII hexadecimal digits to one Byte of binary", those after the mark
  pub behind_the_mark : (mark : ℕ) (cs : List ℕ) → bytes_of (mark ∷ cs) ≡ pairs cs
  pub pair : (h l : ℕ) (cs : List ℕ) → pairs (h ∷ l ∷ cs) ≡ (16 * digit_value h + digit_value l) ∷ pairs cs
  pub no_pair : pairs [] ≡ []
  -- "the sum of all the ASCII pairs"; "The two's complement": one byte brings it to zero
  pub no_sum : sum [] ≡ 0
  pub sum_of_each : (b : ℕ) (bs : List ℕ) → sum (b ∷ bs) ≡ b + sum bs
  pub to_zero : (bs : List ℕ) → (sum bs + checksum bs) % 256 ≡ 0
  pub one_byte : (bs : List ℕ) → checksum bs < 256
  -- "Record Mark ':' | Record length | Load Offset | Record Type | Data or Info | Checksum", the checksum over all bytes before it
  pub written : (offset kind : ℕ) (d : List ℕ) → let bytes = length d ∷ offset / 256 ∷ offset % 256 ∷ kind ∷ d in
      record_of offset kind d ≡ 0x3A ∷ hex_bytes (bytes ++ checksum bytes ∷ [])
  pub fields_read : (cs : List ℕ) → let bytes = bytes_of cs in
      fields_of cs ≡ fields (256 * byte_at bytes 1 + byte_at bytes 2) (byte_at bytes 3) (byte_at bytes 0)
  pub length_read : (cs : List ℕ) → length_field cs ≡ byte_at (bytes_of cs) 0
  pub data_read_lem : (cs : List ℕ) (n : ℕ) → data_of cs n ≡ take n (drop 4 (bytes_of cs))
  pub right_sum : (cs : List ℕ) → (sums_to_zero cs ≡ true) ↔ (sum (bytes_of cs) % 256 ≡ 0)
  -- what has its form and sums to zero is taken, in capitals and in small letters
  pub taken : (cs : List ℕ) → well_formed cs ≡ true → sum (bytes_of cs) % 256 ≡ 0 → reading cs ≡ Ok (fields_of cs)
