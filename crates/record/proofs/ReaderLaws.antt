-- Laws of the record reader: what is no record, and its answers without data.
-- Assumes nothing.
use Rattle.std.specs.Prelude.{Err}
use mathlib.Core.Path.{◌≡◌, refl, sym}
use mathlib.Core.Bool.{Bool, true, false, ◌&&◌}
use mathlib.Core.List.{List, []}
use Prim.Native.Nat.{ℕ, zero-le}
use lib.Dec.{eqb}
use lib.ListN.{length, drop}
use borrow.Author.Tests.{le-ltb, ne_eqb}
use Rattle.words.specs.Words.{byte_at}
use Rattle.words.proofs.WordsLaws.{overlay_none}
use Rattle.record.specs.Digits.{all_digits}
use Rattle.record.specs.Record.{record_mark, character_count}
use Rattle.record.specs.Reader.{Reading, BadRecord, length_field, well_formed, reading, data_read, read_record, room_read}

-- three tests, of which the last fails if the one before it passes
fails : (a b c : Bool) → (b ≡ true → c ≡ false) → (a && b && c) ≡ false
fails true true c h = h refl
fails true false c h = refl
fails false b c h = refl

module _ (cs : List ℕ) where
  -- a character is no digit, or the length field says another count of characters
  pub ill_formed : (all_digits (drop 1 cs) ≡ true → length cs ≡ character_count (length_field cs) → ⊥) → well_formed cs ≡ false
  ill_formed h =
      fails (eqb (byte_at cs 0) record_mark) (all_digits (drop 1 cs)) (eqb (length cs) (character_count (length_field cs)))
      (λ d. ne_eqb (length cs) (character_count (length_field cs)) (h d))

  pub wrong_mark : (byte_at cs 0 ≡ record_mark → ⊥) → well_formed cs ≡ false
  wrong_mark h = rw (ne_eqb (byte_at cs 0) record_mark h)

  module _ (room : List ℕ) where
    -- an answer and the room after it
    unfoldable pub Answer : Reading → List ℕ → Type 0
    Answer r room' = (r ≡ read_record cs room) × (room' ≡ room_read cs room)

    pub no_data : (g : Reading) → reading cs ≡ g → data_read g cs ≡ [] → Answer g room
    unfolding read_record room_read Answer
    no_data g q e =
        let t = le-ltb (length room) 0 zero-le in
        (rw (q, e, t), rw (q, e, t) (sym (overlay_none 0 room)))

    pub refused : well_formed cs ≡ false → Answer (Err BadRecord) room
    unfolding reading
    refused h = no_data (Err BadRecord) (rw h) refl
