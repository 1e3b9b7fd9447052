-- The sentences of specs/Frames.antt hold; but for the characters that are no digit and for every record and room each is computed.
-- Assumes nothing.
use Rattle.std.specs.Prelude.{Ok, Err}
use mathlib.Core.Path.{◌≡◌, refl, sym, ap, ◌∙◌}
use mathlib.Core.Bool.{true, false, true≢false}
use mathlib.Core.List.{List, ◌++◌}
use Prim.Native.Nat.{ℕ, ◌+◌, ◌-◌, ◌*◌, ◌%◌, ◌≤◌, ◌<◌}
use native.Mathlib.Nat.{zero-add}
use native.Mathlib.Omega.{arith}
use lib.Dec.{eqb}
use lib.ListN.{length, drop, length-drop}
use lib.Seq.{get_or-drop}
use borrow.Author.Tests.{eq-eqb, ne_eqb, eqb-true, not-false, le-leb, lt-leb, le-ltb, lt-ltb}
use Rattle.words.specs.Words.{byte_at}
use Rattle.words.proofs.WordsLaws.{overlay_front}
use Rattle.record.specs.Digits.{no_digit, digit_value, is_digit}
use Rattle.record.specs.Record.{record_mark, character_count, most_data, sum, record_of, bytes_of, data_of}
use Rattle.record.specs.Reader.{Fields, WrongChecksum, BadRecord, TooShort, length_field, well_formed, reading, read_record, room_read}
use Rattle.record.specs.Writer.{write_record, room_written}
use Rattle.record.specs.declared.writer.WriteError.TheVariants as W
use Rattle.record.specs.Frames.{Frames}
use Rattle.record.proofs.DigitsLaws.{all_digits_lem}
use Rattle.record.proofs.RecordLaws.{length_record_of}
use Rattle.record.proofs.ReaderLaws.{ill_formed, wrong_mark, Answer, no_data, refused}
use Rattle.record.proofs.RoundTripHolds.{data_size}

-- ---- a character that is in none of the three ranges

module _ (c : ℕ) where
  below : c < 0x30 → is_digit c ≡ false
  unfolding digit_value
  below h = rw (lt-leb 48 c h, lt-leb 65 c (omega arith), lt-leb 97 c (omega arith))

  to_letters : 0x39 < c → c < 0x41 → is_digit c ≡ false
  unfolding digit_value
  to_letters h l = rw (le-leb 48 c (omega arith), lt-leb c 57 h, lt-leb 65 c l, lt-leb 97 c (omega arith))

  to_small : 0x46 < c → c < 0x61 → is_digit c ≡ false
  unfolding digit_value
  to_small h l = rw (le-leb 48 c (omega arith), lt-leb c 57 (omega arith), le-leb 65 c (omega arith), lt-leb c 70 h, lt-leb 97 c l)

  above : 0x66 < c → is_digit c ≡ false
  unfolding digit_value
  above h = rw (
    le-leb 48 c (omega arith),
    lt-leb c 57 (omega arith),
    le-leb 65 c (omega arith),
    lt-leb c 70 (omega arith),
    le-leb 97 c (omega arith),
    lt-leb c 102 h,
  )

  -- ---- a character that is in one of them: its value is below 16, and 255 is no digit's

  marked : is_digit c ≡ false → digit_value c ≡ 0xFF
  marked h = eqb-true (digit_value c) no_digit (not-false (eqb (digit_value c) no_digit) h)

  is_digit_lem : 0x30 ≤ c → c ≤ 0x39 → is_digit c ≡ true
  unfolding digit_value
  is_digit_lem h l = rw (le-leb 48 c h, le-leb c 57 l, ne_eqb (c - 48) no_digit (λ z. omega arith))

  is_letter : 0x41 ≤ c → c ≤ 0x46 → is_digit c ≡ true
  unfolding digit_value
  is_letter h l = rw (le-leb 48 c (omega arith), lt-leb c 57 (omega arith), le-leb 65 c h, le-leb c 70 l, ne_eqb (c - 55) no_digit (λ z. omega arith))

  is_small : 0x61 ≤ c → c ≤ 0x66 → is_digit c ≡ true
  unfolding digit_value
  is_small h l = rw (
    le-leb 48 c (omega arith),
    lt-leb c 57 (omega arith),
    le-leb 65 c (omega arith),
    lt-leb c 70 (omega arith),
    le-leb 97 c h,
    le-leb c 102 l,
    ne_eqb (c - 87) no_digit (λ z. omega arith),
  )

-- ---- the reader, in every room

module _ (cs : List ℕ) where
  bad_digit : (i : ℕ) → 1 ≤ i → i < length cs → is_digit (byte_at cs i) ≡ false → well_formed cs ≡ false
  bad_digit i h l z =
      let e : 1 + (i - 1) ≡ i = omega arith in
      let at : byte_at (drop 1 cs) (i - 1) ≡ byte_at cs i = get_or-drop 1 cs (i - 1) 0 ∙ ap (byte_at cs) e in
      ill_formed cs (λ d q. let t = all_digits_lem (drop 1 cs) (i - 1) d (simp length-drop (omega arith)) in true≢false (sym t ∙ ap is_digit at ∙ z))

  bad_length_lem : (length cs ≡ 11 + 2 * length_field cs → ⊥) → well_formed cs ≡ false
  bad_length_lem h = ill_formed cs (λ d q. h (omega arith))

  module _ (room : List ℕ) where
    malformed : well_formed cs ≡ false → (read_record cs room ≡ Err BadRecord) × (room_read cs room ≡ room)
    unfolding Answer
    malformed h = let a = refused cs room h in (sym a.0, sym a.1)

    sum_before_room : well_formed cs ≡ true → (sum (bytes_of cs) % 256 ≡ 0 → ⊥) → (read_record cs room ≡ Err WrongChecksum) × (room_read cs room ≡ room)
    unfolding reading Answer
    sum_before_room w h =
        let a = no_data cs room (Err WrongChecksum) (rw (w, ne_eqb (sum (bytes_of cs) % 256) 0 h)) refl in
        (sym a.0, sym a.1)

    module _ (f : Fields) (q : reading cs ≡ Ok f) where
      count : length (data_of cs f.length) ≡ f.length
      count = (data_size cs f q).0

      room_short : length room < f.length → (read_record cs room ≡ Err TooShort) × (room_read cs room ≡ room)
      unfolding read_record room_read
      room_short h = let t = lt-ltb (length room) f.length h in (rw (q, count, t), rw (q, count, t))

      room_right : f.length ≤ length room
          → (read_record cs room ≡ Ok f) × (room_read cs room ≡ data_of cs f.length ++ drop f.length room)
      unfolding read_record room_read
      room_right h =
          let t = le-ltb (length room) f.length h in
          (rw (q, count, t), rw (q, count, t, zero-add f.length))

-- ---- the writer

module _ (offset kind : ℕ) (d room : List ℕ) where
  size : length (record_of offset kind d) ≡ 11 + 2 * length d
  size = omega (arith, length_record_of offset kind d)

  too_much : 255 < length d → (write_record offset kind d room ≡ Err W.BadRecord) × (room_written offset kind d room ≡ room)
  unfolding write_record room_written
  too_much h = let many = lt-ltb most_data (length d) h in (rw many, rw many)

  no_room : length d ≤ 255 → length room < 11 + 2 * length d
      → (write_record offset kind d room ≡ Err W.TooShort) × (room_written offset kind d room ≡ room)
  unfolding write_record room_written
  no_room h l =
      let few = le-ltb most_data (length d) h in
      let short = lt-ltb (length room) (length (record_of offset kind d)) (rw size l) in
      (rw (few, short), rw (few, short))

  enough_room : length d ≤ 255 → 11 + 2 * length d ≤ length room
      → (write_record offset kind d room ≡ Ok (11 + 2 * length d))
      × (room_written offset kind d room ≡ record_of offset kind d ++ drop (11 + 2 * length d) room)
  unfolding write_record room_written
  enough_room h l =
      let few = le-ltb most_data (length d) h in
      let fits = le-ltb (length room) (length (record_of offset kind d)) (rw size l) in (
        rw (few, fits) (ap Ok size),
        rw (few, fits) (overlay_front (record_of offset kind d) room ∙ rw size),
      )

pub frames : Frames
unfolding digit_value record_of reading
frames = record {
  digits = refl;
  letters = refl;
  small_letters = refl;
  are_digits = is_digit_lem;
  are_letters = is_letter;
  are_small = is_small;
  all_characters = refl;
  no_digit_is = refl;
  entry = λ f i n. refl;
  no_entry = λ f i. refl;
  marked = marked;
  none_below = below;
  none_to_letters = to_letters;
  none_to_small = to_small;
  none_above = above;
  written = refl;
  taken = refl;
  data_taken = refl;
  small_taken = refl;
  small_data_taken = refl;
  no_mark = refl;
  no_digit_lem = refl;
  nothing = refl;
  character_less = refl;
  character_more = refl;
  byte_less = refl;
  byte_more = refl;
  wrong_sum = refl;
  all_right = λ cs m d l. rw (eq-eqb (byte_at cs 0) record_mark m, d) (eq-eqb (length cs) (character_count (length_field cs)) (omega (arith, l)));
  no_more_digits = refl;
  digits_on = λ c cs h. rw h;
  bad_mark = wrong_mark;
  bad_digit = bad_digit;
  bad_length_lem = bad_length_lem;
  malformed = malformed;
  sum_before_room = sum_before_room;
  room_short = room_short;
  room_right = room_right;
  too_much = too_much;
  no_room = no_room;
  enough_room = enough_room;
  taken_0 = λ f. refl;
  wrong_1 = (refl, refl);
  refused_17 = (refl, refl);
  refused_9 = (refl, refl);
  wrote_0 = λ n. (refl, refl);
  unwritten_17 = (refl, refl);
  unwritten_9 = (refl, refl);
  unwritten_0 = λ e. refl;
}
