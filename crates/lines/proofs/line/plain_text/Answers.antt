-- `lines::line::plain_text` meets its contract: what was laid where it fits stands there.
-- Assumes nothing.
use Rattle.std.proofs.Common.{◌≡◌, true, false, List, ℕ, ◌+◌, length, refl, Ok, Err}
use Rattle.words.specs.Words.{fits}
use Rattle.lines.specs.Room.{too_short, put}
use Rattle.lines.proofs.line.plain_text.Goals as goal

-- a text that does not fit is not put, and one that fits is
not_put : (at : ℕ) (x m : List ℕ) → false ≡ fits at x m → Err too_short ≡ put at x m
unfolding put
not_put at x m q = rw (← q) refl

is_put : (at : ℕ) (x m : List ℕ) → true ≡ fits at x m → Ok (at + length x) ≡ put at x m
unfolding put
is_put at x m q = rw (← q) refl

pub returns-else-lay-clause-value : goal.returns-else-lay-clause-value
returns-else-lay-clause-value c = not_put _ _ _ c.if-lay.ensures.value

pub returns-then-lay-clause-value : goal.returns-then-lay-clause-value
returns-then-lay-clause-value c = is_put _ _ _ c.if-lay.ensures.value
