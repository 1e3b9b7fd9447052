-- A result as the code gives it: the answer, and each lent memory after it. Assumes nothing: these are definitions.
use Rattle.std.specs.Prelude.{◌≡◌, List, ℕ, length}
use Rattle.words.specs.Words.{overlay}
use Rattle.plug.specs.Step.{Board, Result, Answer, next, pages}

abbrev pub answer_of : Result → Answer
answer_of r = record { outcome = r.outcome; config = r.config; length = length r.text; pages = pages r }

-- "refusing, it leaves its room unwritten, and otherwise the room past its answer"
abbrev pub room_after : Result → List ℕ → List ℕ
room_after r room = overlay 0 r.text room

-- the answer a, the flash f and the room p, which was p₀, are those of the result r
pub record Stepped (b : Board) (r : Result) (a : Answer) (f p p₀ : List ℕ) : Type 0 where
  pub answered : a ≡ answer_of r
  pub flash : f ≡ (next b r).flash
  pub room : p ≡ room_after r p₀

-- the same where no flash is lent
pub record Replied (r : Result) (a : Answer) (p p₀ : List ℕ) : Type 0 where
  pub answered : a ≡ answer_of r
  pub room : p ≡ room_after r p₀
