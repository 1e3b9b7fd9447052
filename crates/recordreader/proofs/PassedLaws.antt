-- Laws of the record reader: what its tests say of the characters, and its answers to those that passed.
-- Assumes nothing.
use Rattle.std.specs.Prelude.{if◌then◌else◌, Option, None, Some, Ok, Err}
use Rattle.std.proofs.Common.{◌≡◌, ℕ, ◌+◌, ◌-◌, ◌*◌, ◌%◌, ◌<◌, ◌≤◌, Bool, true, false, List, length, get_or, take, drop}
use Rattle.std.proofs.Common.{sym, refl, ◌∙◌, arith, length-drop, length-take-le, le-ltb, lt-ltb, eq-eqb, ne_eqb, le-leb}
use lib.ListN.{get_or-append}
use lib.Seq.{take-append-le, drop-append-le}
use Rattle.words.specs.Words.{byte_at, overlay, laid}
use Rattle.words.proofs.WordsLaws.{overlay_front}
use Rattle.record.specs.Digits.{all_digits}
use Rattle.record.specs.Record.{record_mark, head_size, character_count, sum, bytes_of, data_of}
use Rattle.record.specs.declared.reader.ReadError.TheVariants.{WrongChecksum, TooShort}
use Rattle.record.specs.Reader.{Held, pairs_read, data_count, length_field, well_formed, fields_of, reading, read_record, room_read}
use Rattle.record.proofs.DigitsLaws.{length_pairs, pairs_bytes}
use Rattle.record.proofs.ReaderLaws.{ill_formed, Answer, no_data}

-- ---- what the pairs say

read_all : (t : Bool) (all total : ℕ) → (if t then Some all else None) ≡ Some total → (t ≡ true) × (total ≡ all)
read_all true all total e = (refl, cc)
read_all false all total e = absurd (let z : ◌≡◌ {A = ℕ} 0 1 = cc in omega arith)

read_none : (t : Bool) (all : ℕ) → (if t then Some all else None) ≡ None → t ≡ false
read_none true all e = absurd (let z : ◌≡◌ {A = ℕ} 0 1 = cc in omega arith)
read_none false all e = refl

-- a part of a memory that was laid over the front of another
held_part : (i k : ℕ) (b z held : List ℕ) → held ≡ overlay 0 b z → i + k ≤ length b → take k (drop i held) ≡ take k (drop i b)
held_part i k b z held e h =
    rw (e, overlay_front b z, drop-append-le i b (drop (length b) z) (omega arith))
    (take-append-le k (drop i b) (drop (length b) z) (simp length-drop (omega arith)))

module _ (cs : List ℕ) where
  -- ---- what is no record

  pub wrong_count : (n : ℕ) → n ≡ data_count (length cs) → (length cs ≡ character_count 0 + 2 * n → ⊥) → well_formed cs ≡ false
  wrong_count n e h = ill_formed cs (λ d q. h (omega (arith, pairs_bytes (drop 1 cs) d 0)))

  pub wrong_digit : (r : Option ℕ) → r ≡ pairs_read cs → r ≡ None → well_formed cs ≡ false
  wrong_digit r p q =
      let no = read_none (all_digits (drop 1 cs)) (sum (bytes_of cs) % 256) (sym p ∙ q) in
      ill_formed cs (λ d k. let z : ◌≡◌ {A = ℕ} 0 1 = cc in omega arith)

  -- ---- what passed the tests: a mark, so many characters, and digits whose bytes are held and come to a total

  pub record Passed (n total : ℕ) (z held : List ℕ) : Type 0 where
    pub marked : byte_at cs 0 ≡ record_mark
    pub counted : length cs ≡ character_count 0 + 2 * n
    pub digits : all_digits (drop 1 cs) ≡ true
    pub summed : total ≡ sum (bytes_of cs) % 256
    pub bytes_held : held ≡ overlay 0 (bytes_of cs) z

  pub passed : (n total : ℕ) (z held : List ℕ) (r : Option ℕ) → byte_at cs 0 ≡ record_mark → length cs ≡ character_count 0 + 2 * n
      → (r ≡ pairs_read cs) × Held cs z held → r ≡ Some total → Passed n total z held
  passed n total z held r m l e q =
      let all = read_all (all_digits (drop 1 cs)) (sum (bytes_of cs) % 256) total (sym e.0 ∙ q) in
      record { marked = m; counted = l; digits = all.0; summed = all.1; bytes_held = e.1 all.0 }

  module _ (n total : ℕ) (z held : List ℕ) (p : Passed n total z held) where
    bytes_count : length (bytes_of cs) ≡ 5 + n
    bytes_count = length_pairs (drop 1 cs) ∙ rw length-drop (omega arith)

    -- the byte that is held at a place
    byte_held : (i : ℕ) → i < 5 + n → get_or held i 0 ≡ byte_at (bytes_of cs) i
    byte_held i h =
        rw (p.bytes_held, overlay_front (bytes_of cs) z) (get_or-append (bytes_of cs) (drop (length (bytes_of cs)) z) 0 i (omega (arith, bytes_count)))

    data_held : take n (drop head_size held) ≡ data_of cs n
    data_held = held_part head_size n (bytes_of cs) z held p.bytes_held (omega (arith, bytes_count))

    pub wrong_length_lem : (get_or held 0 0 ≡ n → ⊥) → well_formed cs ≡ false
    wrong_length_lem h = ill_formed cs (λ d q. h (omega (arith, byte_held 0 (omega arith))))

    well_formed_lem : get_or held 0 0 ≡ n → well_formed cs ≡ true
    well_formed_lem h =
        rw (eq-eqb (byte_at cs 0) record_mark p.marked, p.digits)
        (eq-eqb (length cs) (character_count (length_field cs)) (omega (arith, byte_held 0 (omega arith))))

    length_is : get_or held 0 0 ≡ n → length_field cs ≡ n
    length_is h = sym (byte_held 0 (omega arith)) ∙ h

    length_data : length (data_of cs n) ≡ n
    length_data = length-take-le n (drop head_size (bytes_of cs)) (simp length-drop (omega (arith, bytes_count)))

  -- ---- the answers

  module _ (room : List ℕ) where
    pub wrong_sum : (n total : ℕ) (z held : List ℕ) → Passed n total z held → get_or held 0 0 ≡ n → (total ≡ 0 → ⊥) → Answer cs room (Err WrongChecksum) room
    unfolding reading
    wrong_sum n total z held p l h =
        no_data cs room (Err WrongChecksum) (rw (well_formed_lem n total z held p l, ne_eqb (sum (bytes_of cs) % 256) 0 (λ q. h (p.summed ∙ q)))) refl

    module _ (n total : ℕ) (z held : List ℕ) (p : Passed n total z held) (l : get_or held 0 0 ≡ n) (s : total ≡ 0) where
      taken : reading cs ≡ Ok (fields_of cs)
      unfolding reading
      taken = rw (well_formed_lem n total z held p l, eq-eqb (sum (bytes_of cs) % 256) 0 (sym p.summed ∙ s))

      pub no_room : length room < n → Answer cs room (Err TooShort) room
      unfolding read_record room_read Answer
      no_room h =
          let t = lt-ltb (length room) (length (data_of cs n)) (omega (arith, length_data n total z held p)) in
          (rw (taken, length_is n total z held p l, t), rw (taken, length_is n total z held p l, t))

      pub all_read : (offset : ℕ) (room' : List ℕ) → n ≤ length room → offset ≡ get_or held 1 0 * 256 + get_or held 2 0
          → room' ≡ laid 0 (take (head_size + n - head_size) (drop head_size held)) room
          → Answer cs room (Ok (record { offset = offset; kind = get_or held 3 0; length = n })) room'
      unfolding read_record room_read Answer laid
      all_read offset room' h o e =
          let at = byte_held n total z held p in
          let q : head_size + n - head_size ≡ n = omega arith in
          let t = le-ltb (length room) (length (data_of cs n)) (omega (arith, length_data n total z held p)) in
          let u = le-leb (0 + length (data_of cs n)) (length room) (omega (arith, length_data n total z held p)) in
          let m = length_is n total z held p l in (
            rw (taken, m, t, o, at 1 (omega arith), at 2 (omega arith), at 3 (omega arith)),
            rw (taken, m, t) (e ∙ rw (q, data_held n total z held p, u)),
          )
