-- A table of a function's values: at each place of the table stands the function's value there.
-- Assumes nothing.
use mathlib.Core.Path.{◌≡◌, sym, ◌∙◌, ap}
use mathlib.Core.List.{List}
use Prim.Native.Nat.{ℕ, zero, suc, ◌+◌, ◌<◌}
use native.Mathlib.Nat.{add-zero, zero-add, add-suc, suc-add, le_of_suc-le-suc, not-suc-le-zero}
use lib.ListN.{get_or}
use Rattle.record.specs.Digits.{tabled}

from : (f : ℕ → ℕ) (n i k : ℕ) → k < n → get_or (tabled f i n) k 0 ≡ f (i + k)
from f zero i k h = absurd (not-suc-le-zero h)
from f (suc n) i zero h = ap f (sym (add-zero i))
from f (suc n) i (suc k) h = from f n (suc i) k (le_of_suc-le-suc h) ∙ ap f (suc-add i k ∙ sym (add-suc i k))

-- a list that is the table
pub entry : (f : ℕ → ℕ) (n : ℕ) (values : List ℕ) → values ≡ tabled f 0 n → (k : ℕ) → k < n → get_or values k 0 ≡ f k
entry f n values table k h = rw table (from f n 0 k h ∙ ap f (zero-add k))
