-- No answer is longer than a display of all flash: a display ends at an address of two bytes.
-- Assumes nothing.
use Rattle.std.specs.Prelude.{if◌then◌else◌, Option, None, Some, Ok, Err}
use mathlib.Core.Logic.{⊎_elim}
use mathlib.Core.Path.{◌≡◌, refl}
use mathlib.Core.Bool.{Bool, true, false, ◌&&◌}
use mathlib.Core.List.{List}
use Prim.Native.Nat.{ℕ, ◌+◌, ◌≤◌, ◌<◌}
use native.Mathlib.Omega.{arith}
use lib.Dec.{eqb}
use lib.ListN.{length, take, drop, length-take, get_or-eq_default}
use lib.Seq.{get_or-take, get_or-drop}
use borrow.Author.Tests.{eqb-true, le-ltb}
use Rattle.words.specs.Words.{byte_at, high_first}
use Rattle.listing.proofs.LineLaws.{lt_or_ge}
use Rattle.record.specs.Digits.{all_digits}
use Rattle.record.specs.Record.{record_mark, character_count, bytes_of, data_of}
use Rattle.record.specs.Reader.{Reading, length_field, well_formed, sums_to_zero, fields_of, reading, data_read}
use Rattle.record.specs.declared.reader.ReadError.TheVariants.{WrongChecksum, BadRecord}
use Rattle.record.proofs.DigitsLaws.{and_true, pairs_bytes}
use Rattle.blank.specs.Blank.{used_in}
use Rattle.plug.specs.declared.command.Command.{Command}
use Rattle.plug.specs.declared.command.Command.TheVariants.{Program, Display, BlankCheck, EraseBlock, EraseChip, Write, Read, StartReset, StartAt}
use Rattle.plug.specs.declared.command.Bit.{Bit}
use Rattle.plug.specs.declared.command.Setting.{Setting}
use Rattle.plug.specs.declared.command.Setting.TheVariants.{Bljb, X2}
use Rattle.plug.specs.Config.{level}
use Rattle.plug.specs.Levels.{allowed}
use Rattle.plug.specs.Commands.{flash_size, form, bad_range, range_row, read_row, plain_row, fuse_row, value_row, change_row}
use Rattle.plug.specs.Answers.{blank_text}
use Rattle.plug.specs.Step.{Board, Result, perform, obey, obey_form, answer_to, answer, step}
use Rattle.plug.proofs.AnswerLaws.{length_display}
use Rattle.plugrun.specs.Turn.{most_answer, AnswersWhole}

-- ---- where a display ends; 0 for any other command and for none

abbrev display_end : Option Command → ℕ
display_end None = 0
display_end (Some (Program a)) = 0
display_end (Some (Display a e)) = e.0
display_end (Some (BlankCheck a e)) = 0
display_end (Some (EraseBlock k)) = 0
display_end (Some EraseChip) = 0
display_end (Some (Write s)) = 0
display_end (Some (Read x)) = 0
display_end (Some StartReset) = 0
display_end (Some (StartAt a)) = 0

-- a display that ends at n, or no display
data Ends (n : ℕ) (o : Option Command) : Type 0 where
  there : display_end o ≡ n → Ends n o
  other : display_end o ≡ 0 → Ends n o

end_le : (n : ℕ) (o : Option Command) → Ends n o → display_end o ≤ n
end_le n o (there e) = omega arith
end_le n o (other e) = omega arith

module _ {n : ℕ} where
  -- through a test
  within : (t : Bool) {x y : Option Command} → Ends n x → Ends n y → Ends n (if t then x else y)
  within true p q = p
  within false p q = q

  of_read : (code : ℕ) → Ends n (read_row code)
  of_read code =
      within (eqb code 0x0000) (other refl) (within (eqb code 0x0001) (other refl) (within (eqb code 0x0002) (other refl) (
      within (eqb code 0x0003) (other refl) (within (eqb code 0x0700) (other refl) (within (eqb code 0x0701) (other refl) (
      within (eqb code 0x0702) (other refl) (within (eqb code 0x0B00) (other refl) (within (eqb code 0x0E00) (other refl) (
      within (eqb code 0x0E01) (other refl) (within (eqb code 0x0F00) (other refl) (other refl)))))))))))

  of_plain : (code : ℕ) → Ends n (plain_row code)
  of_plain code =
      within (eqb code 0x0100) (other refl) (within (eqb code 0x0120) (other refl) (within (eqb code 0x0140) (other refl) (
      within (eqb code 0x0180) (other refl) (within (eqb code 0x0300) (other refl) (within (eqb code 0x0400) (other refl) (
      within (eqb code 0x0500) (other refl) (within (eqb code 0x0501) (other refl) (other refl))))))))

  of_fuse : (s : Bit → Setting) (v : ℕ) → Ends n (fuse_row s v)
  of_fuse s v = within (eqb v 0x00) (other refl) (within (eqb v 0x01) (other refl) (other refl))

  of_value : (code v : ℕ) → Ends n (value_row code v)
  of_value code v =
      within (eqb code 0x0600) (other refl) (within (eqb code 0x0601) (other refl) (
      within (eqb code 0x0A04) (of_fuse Bljb v) (within (eqb code 0x0A08) (of_fuse X2 v) (other refl))))

  of_change : (d : List ℕ) → Ends n (change_row d)
  of_change d =
      within (eqb (length d) 1) (within (eqb (byte_at d 0) 0x07) (other refl) (other refl)) (
      within (eqb (length d) 2) (of_plain (high_first d 0)) (
      within (eqb (length d) 3) (of_value (high_first d 0) (byte_at d 2)) (
      within (eqb (length d) 4) (within (eqb (high_first d 0) 0x0301) (other refl) (other refl)) (other refl))))

of_range : (code : ℕ) (d : List ℕ) → Ends (high_first d 2) (range_row code d)
of_range code d = within (eqb code 0x00) (there refl) (within (eqb code 0x01) (other refl) (other refl))

-- a display ends at the address that stands in the record
of_form : (kind offset : ℕ) (d : List ℕ) → Ends (high_first d 2) (form kind offset d)
unfolding form
of_form kind offset d =
    within (eqb kind 0x00) (other refl) (
    within (eqb kind 0x03) (of_change d) (
    within (eqb kind 0x04) (within (eqb (length d) 5) (of_range (byte_at d 4) d) (other refl)) (
    within (eqb kind 0x05) (within (eqb (length d) 2) (of_read (high_first d 0)) (other refl)) (other refl))))

-- the data of a record are bytes
data_bytes : (cs : List ℕ) (n : ℕ) → well_formed cs ≡ true → (i : ℕ) → byte_at (data_of cs n) i < 256
data_bytes cs n w i =
    let a = and_true (eqb (byte_at cs 0) record_mark && all_digits (drop 1 cs)) (eqb (length cs) (character_count (length_field cs))) w in
    let digits = (and_true (eqb (byte_at cs 0) record_mark) (all_digits (drop 1 cs)) a.0).1 in
    let l = drop 4 (bytes_of cs) in
    ⊎_elim
    (λ (h : i < n). rw (get_or-take n l i 0 h, get_or-drop 4 (bytes_of cs) i 0) (pairs_bytes (drop 1 cs) digits (4 + i)))
    (λ (h : n ≤ i). rw (get_or-eq_default (take n l) 0 {n = i} (rw (length-take n l) (omega arith))) (omega arith))
    (lt_or_ge i n)

-- ---- how long an answer is

record Short (r : Result) : Type 0 where
  size : length r.text ≤ most_answer

pick : (t : Bool) {x y : Result} → (t ≡ true → Short x) → (t ≡ false → Short y) → Short (if t then x else y)
pick true p q = p refl
pick false p q = q refl

blank_short : (u : Option ℕ) → length (blank_text u) ≤ most_answer
blank_short None = omega arith
blank_short (Some x) = omega arith

module _ (b : Board) (size : length b.flash ≡ flash_size) where
  of_perform : (k : Command) (d : List ℕ) → display_end (Some k) < flash_size → Short (perform b k d)
  unfolding perform
  of_perform (Program a) d h = record { size = omega arith }
  of_perform (Display a e) d h = record { size = omega (arith, length_display a.0 e.0 b.flash (omega arith)) }
  of_perform (BlankCheck a e) d h = record { size = blank_short (used_in a.0 e.0 b.flash) }
  of_perform (EraseBlock k) d h = record { size = omega arith }
  of_perform EraseChip d h = record { size = omega arith }
  of_perform (Write s) d h = record { size = omega arith }
  of_perform (Read x) d h = record { size = omega arith }
  of_perform StartReset d h = record { size = omega arith }
  of_perform (StartAt a) d h = record { size = omega arith }

  of_obey : (o : Option Command) (d : List ℕ) → display_end o < flash_size → Short (obey_form b o d)
  unfolding obey
  of_obey None d h = record { size = omega arith }
  of_obey (Some k) d h =
      pick (bad_range k (length d)) (λ x. record { size = omega arith }) (λ x.
      pick (allowed k (level b.config)) (λ y. of_perform k d h) (λ y. record { size = omega arith }))

  of_tests : (cs : List ℕ) (t t' : Bool) → well_formed cs ≡ t
      → let r : Reading = if t then (if t' then Ok (fields_of cs) else Err WrongChecksum) else Err BadRecord in Short (answer_to b r (data_read r cs))
  of_tests cs true true w =
      let d = data_of cs (length_field cs) in
      let f = fields_of cs in
      let e = data_bytes cs (length_field cs) w in
      of_obey (form f.kind f.offset d) d (omega (arith, end_le _ (form f.kind f.offset d) (of_form f.kind f.offset d), e 2, e 3))
  of_tests cs true false w = record { size = omega arith }
  of_tests cs false t' w = record { size = omega arith }

of_answer : (b : Board) (cs : List ℕ) → Short (answer b cs)
unfolding answer reading
of_answer b cs =
    pick (eqb (length b.flash) flash_size)
    (λ x. of_tests b (eqb-true _ flash_size x) cs (well_formed cs) (sums_to_zero cs) refl)
    (λ x. record { size = omega arith })

-- no answer is longer
pub answer_short : (b : Board) (cs : List ℕ) → length (answer b cs).text ≤ most_answer
answer_short b cs = (of_answer b cs).size

-- so that in a room for the longest every answer is whole
pub step_whole : AnswersWhole
unfolding step
step_whole b cs n h = rw (le-ltb n (length (answer b cs).text) (omega (arith, answer_short b cs)))
