-- Every answer has one of three shapes: a numbered refusal; `X` or `P`, which move nothing; or what a command does that passed. This
-- is the one walk through the order of the refusals: the laws of effects and of level 2 go by its cases.
-- Assumes nothing.
use Rattle.std.specs.Prelude.{if◌then◌else◌, Option, None, Some, Ok, Err}
use mathlib.Core.Path.{◌≡◌, refl}
use mathlib.Core.Bool.{Bool, true, false}
use mathlib.Core.List.{List, [], ◌∷◌}
use Prim.Native.Nat.{ℕ, ◌≤◌, zero-le}
use lib.Dec.{eqb, ltb}
use lib.ListN.{length}
use borrow.Author.Tests.{eqb-true, ltb-false}
use Rattle.words.specs.Words.{among}
use Rattle.record.specs.Record.{data_of}
use Rattle.record.specs.Reader.{Reading, well_formed, sums_to_zero, fields_of, reading, data_read}
use Rattle.record.specs.declared.fields.Fields.{Fields}
use Rattle.record.specs.declared.reader.ReadError.TheVariants.{WrongChecksum, BadRecord}
use Rattle.plug.specs.Config.{Config, level}
use Rattle.plug.specs.Levels.{Command, allowed}
use Rattle.plug.specs.Commands.{flash_size, form, bad_range}
use Rattle.plug.specs.Examples.{command_in, command_of}
use Rattle.plug.specs.Effects.{record_data}
use Rattle.plug.specs.Step.{Board, Result, refused, told, perform, obey, obey_form, answer_to, answer, step}

-- a command of the record with the data d that passed the size, the form, the range and the level
pub record Passed (b : Board) (k : Command) (o : Option Command) (d : List ℕ) : Type 0 where
  pub flash_size_lem : length b.flash ≡ flash_size
  pub formed : o ≡ Some k
  pub range_right : bad_range k (length d) ≡ false
  pub level_right : allowed k (level b.config) ≡ true

-- o is the command that the record is read as
pub data Shape (b : Board) (o : Option Command) (d : List ℕ) (r : Result) : Type 0 where
  refuses : (k : ℕ) → among k (2 ∷ 17 ∷ 9 ∷ []) ≡ true → r ≡ refused b.config k → Shape b o d r
  tells : (t : List ℕ) → r ≡ told b.config t → Shape b o d r
  does : (k : Command) → Passed b k o d → r ≡ perform b k d → Shape b o d r

-- through a test
pick : {b : Board} {o : Option Command} {d : List ℕ} (t : Bool) {x y : Result} → (t ≡ true → Shape b o d x) → (t ≡ false → Shape b o d y)
    → Shape b o d (if t then x else y)
pick true p q = p refl
pick false p q = q refl

module _ (b : Board) (hf : length b.flash ≡ flash_size) where
  of_obey : (k : Command) (d : List ℕ) → Shape b (Some k) d (obey b k d)
  unfolding obey
  of_obey k d =
      pick (bad_range k (length d)) (λ x. refuses 17 refl refl) (λ x.
      pick (allowed k (level b.config))
      (λ y. does k (record { flash_size_lem = hf; formed = refl; range_right = x; level_right = y }) refl)
      (λ y. tells _ refl))

  of_form : (o : Option Command) (d : List ℕ) → Shape b o d (obey_form b o d)
  of_form None d = refuses 17 refl refl
  of_form (Some k) d = of_obey k d

  -- what the reader answers, by its two tests
  of_tests : (t t' : Bool) (f : Fields) (cs : List ℕ)
      → let r : Reading = if t then (if t' then Ok f else Err WrongChecksum) else Err BadRecord in
      Shape b (command_in r (data_read r cs)) (data_read r cs) (answer_to b r (data_read r cs))
  of_tests true true f cs = of_form (form f.kind f.offset (data_of cs f.length)) (data_of cs f.length)
  of_tests true false f cs = tells _ refl
  of_tests false t' f cs = refuses 17 refl refl

  of_reading : (cs : List ℕ) → Shape b (command_of cs) (record_data cs) (answer_to b (reading cs) (record_data cs))
  unfolding reading
  of_reading cs = of_tests (well_formed cs) (sums_to_zero cs) (fields_of cs) cs

of_answer : (b : Board) (cs : List ℕ) → Shape b (command_of cs) (record_data cs) (answer b cs)
unfolding answer
of_answer b cs = pick (eqb (length b.flash) flash_size) (λ x. of_reading b (eqb-true _ flash_size x) cs) (λ x. refuses 2 refl refl)

pub shape : (b : Board) (cs : List ℕ) (n : ℕ) → Shape b (command_of cs) (record_data cs) (step b cs n)
unfolding step
shape b cs n = pick (ltb n (length (answer b cs).text)) (λ x. refuses 9 refl refl) (λ x. of_answer b cs)

-- whatever the answer is, it fits the room
fits_room : (c : Config) (n : ℕ) (r : Result) (t : Bool) → ltb n (length r.text) ≡ t → length (if t then refused c 9 else r).text ≤ n
fits_room c n r true q = zero-le
fits_room c n r false q = ltb-false n (length r.text) q

pub text_fits : (b : Board) (cs : List ℕ) (n : ℕ) → length (step b cs n).text ≤ n
unfolding step
text_fits b cs n = fits_room b.config n (answer b cs) (ltb n (length (answer b cs).text)) refl
