-- What a caller of the code is handed is what the definition of a record says: outcome, board, page count and the answer's characters.
-- Proved in proofs/HandedHolds.antt.
use Rattle.std.specs.Prelude.{◌≡◌, List, ℕ, length, take, drop}
use Rattle.plug.specs.Step.{Board, board, Result, Answer, next}
use Rattle.plug.specs.Answered.{Stepped, Replied}

-- the answer a and the room p, which was p₀: the characters stand at the room's front, and "the room past its answer" stays
pub record Reported (r : Result) (a : Answer) (p p₀ : List ℕ) : Type 0 where
  pub outcome : a.outcome ≡ r.outcome
  pub config : a.config ≡ r.config
  pub count : a.length ≡ length r.text
  pub page_count_lem : a.pages ≡ length r.stored
  pub text_first : take a.length p ≡ r.text
  pub rest_stays : drop a.length p ≡ drop a.length p₀

pub record Handed : Type 0 where
  -- where flash is lent, and where it is not
  pub stepped : (b : Board) (r : Result) (a : Answer) (f p p₀ : List ℕ) → Stepped b r a f p p₀ → Reported r a p p₀ × (board a.config f ≡ next b r)
  pub replied : (r : Result) (a : Answer) (p p₀ : List ℕ) → Replied r a p p₀ → Reported r a p p₀
