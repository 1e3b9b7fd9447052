-- A record's answer by what the reader says of it.
-- Assumes nothing.
use Rattle.std.specs.Prelude.{Ok}
use mathlib.Core.Path.{◌≡◌, sym, ap, ◌∙◌}
use mathlib.Core.List.{List}
use Prim.Native.Nat.{ℕ, ◌≤◌}
use lib.ListN.{length, take, drop}
use lib.Seq.{take_at, length-take-le}
use native.Mathlib.Omega.{arith}
use borrow.Author.Tests.{eq-eqb, ne_eqb}
use Rattle.words.specs.Words.{overlay}
use Rattle.words.proofs.WordsLaws.{length_overlay, overlay_front}
use Rattle.record.specs.Record.{most_data, data_of}
use Rattle.record.specs.Reader.{Reading, reading, data_read, read_record, room_read}
use Rattle.record.specs.declared.fields.Fields.{Fields}
use Rattle.record.proofs.RoundTripHolds.{data_size, read_whole}
use Rattle.plug.specs.declared.answer.Answer.{Answer}
use Rattle.plug.specs.Commands.{flash_size}
use Rattle.plug.specs.Step.{Board, refused, answer_to, answer, in_room, step}
use Rattle.plug.specs.Answered.{Stepped}

-- a flash of another size
pub wrong_size : (b : Board) (cs : List ℕ) (n : ℕ) {a : Answer} {f p p₀ : List ℕ} → (length b.flash ≡ flash_size → ⊥)
    → Stepped b (in_room b.config n (refused b.config 2)) a f p p₀ → Stepped b (step b cs n) a f p p₀
unfolding step answer
wrong_size b cs n h s = rw (ne_eqb (length b.flash) flash_size h) s

-- what the reader says
pub by_reading : (b : Board) (cs : List ℕ) (n : ℕ) (r : Reading) {a : Answer} {f p p₀ : List ℕ} → length b.flash ≡ flash_size → reading cs ≡ r
    → Stepped b (in_room b.config n (answer_to b r (data_read r cs))) a f p p₀ → Stepped b (step b cs n) a f p p₀
unfolding step answer
by_reading b cs n r h q s = rw (eq-eqb (length b.flash) flash_size h, q) s

-- the reader was lent a room that takes the data of every record, and left x in it
module _ (cs room : List ℕ) (whole : length room ≡ most_data) (r : Reading) (q : r ≡ read_record cs room) where
  pub was_read : (x : Reading) → r ≡ x → reading cs ≡ x
  was_read x e = sym (read_whole cs room (omega arith)).0 ∙ sym q ∙ e

  module _ (f : Fields) (e : r ≡ Ok f) (room' : List ℕ) (left : room' ≡ room_read cs room) where
    d : List ℕ
    d = data_of cs f.length

    laid_there : room' ≡ overlay 0 d room
    unfolding d
    laid_there = left ∙ (read_whole cs room (omega arith)).1 ∙ rw (was_read (Ok f) e)

    pub data_inside : f.length ≤ length room'
    unfolding d
    data_inside =
        let size = data_size cs f (was_read (Ok f) e) in
        omega (arith, ap length laid_there ∙ length_overlay 0 (data_of cs f.length) room (omega arith))

    pub data_count_lem : f.length ≡ length (take f.length room')
    data_count_lem = sym (length-take-le f.length room' data_inside)

    pub data_front : take f.length room' ≡ data_of cs f.length
    unfolding d
    data_front =
        let size = (data_size cs f (was_read (Ok f) e)).0 in
        let body = data_of cs f.length in
        ap (take f.length) (laid_there ∙ overlay_front body room) ∙ take_at body (drop (length body) room) f.length size
