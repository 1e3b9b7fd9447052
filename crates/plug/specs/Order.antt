-- P2's order of the refusals and answers, one sentence a line: each is given when none before it is. Proved in proofs/OrderHolds.antt.
use Rattle.std.specs.Prelude.{◌≡◌, true, false, List, ℕ, ◌≤◌, ◌<◌, length, None, Some}
use Rattle.record.specs.Record.{data_of}
use Rattle.record.specs.Reader.{well_formed, sums_to_zero, fields_of, length_field}
use Rattle.plug.specs.Config.{level}
use Rattle.plug.specs.Levels.{Command, allowed}
use Rattle.plug.specs.Commands.{flash_size, form, bad_range}
use Rattle.plug.specs.Answers.{wrong_checksum_text, security_text}
use Rattle.plug.specs.Step.{Board, refused, told, perform, answer, step}

-- a record that passes the flash's size, its characters, its length and its checksum
pub record Taken (b : Board) (cs : List ℕ) : Type 0 where
  pub flash_size_lem : length b.flash ≡ flash_size
  pub well_formed_lem : well_formed cs ≡ true
  pub sum_right : sums_to_zero cs ≡ true

-- its data
abbrev pub taken_data : List ℕ → List ℕ
taken_data cs = data_of cs (length_field cs)

-- the record is this command
abbrev pub Is : List ℕ → Command → Type 0
Is cs k = form (fields_of cs).kind (fields_of cs).offset (taken_data cs) ≡ Some k

pub record Order : Type 0 where
  -- "2 when the flash isn't 65,536 bytes"
  pub wrong_flash : (b : Board) (cs : List ℕ) → (length b.flash ≡ flash_size → ⊥) → answer b cs ≡ refused b.config 2
  -- "then 17 for a character that is no hex digit or a record of wrong length"
  pub bad_record : (b : Board) (cs : List ℕ) → length b.flash ≡ flash_size → well_formed cs ≡ false → answer b cs ≡ refused b.config 17
  -- "then `X` for a wrong checksum", even where type or length fit no row
  pub wrong_checksum : (b : Board) (cs : List ℕ) → length b.flash ≡ flash_size → well_formed cs ≡ true → sums_to_zero cs ≡ false
      → answer b cs ≡ told b.config wrong_checksum_text
  -- "then 17 for an unknown type, a backward range or one past FFFFh", at every level
  pub unknown_type : (b : Board) (cs : List ℕ) → Taken b cs → form (fields_of cs).kind (fields_of cs).offset (taken_data cs) ≡ None
      → answer b cs ≡ refused b.config 17
  pub bad_range_lem : (b : Board) (cs : List ℕ) (k : Command) → Taken b cs → Is cs k → bad_range k (length (taken_data cs)) ≡ true
      → answer b cs ≡ refused b.config 17
  -- "then `P`"
  pub security : (b : Board) (cs : List ℕ) (k : Command) → Taken b cs → Is cs k → bad_range k (length (taken_data cs)) ≡ false
      → allowed k (level b.config) ≡ false → answer b cs ≡ told b.config security_text
  pub done : (b : Board) (cs : List ℕ) (k : Command) → Taken b cs → Is cs k → bad_range k (length (taken_data cs)) ≡ false
      → allowed k (level b.config) ≡ true → answer b cs ≡ perform b k (taken_data cs)
  -- "and 9 in place of whichever answer doesn't fit, `X` and `P` too; nothing is stored"
  pub does_not_fit : (b : Board) (cs : List ℕ) (n : ℕ) → n < length (answer b cs).text → step b cs n ≡ refused b.config 9
  pub fits : (b : Board) (cs : List ℕ) (n : ℕ) → length (answer b cs).text ≤ n → step b cs n ≡ answer b cs
