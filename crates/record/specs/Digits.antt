-- P2 of 02: "Character values come from a table of 256 entries, one for each character, whose rule is proved once over all of them;
-- small letters are accepted." Assumes nothing: these are definitions.
use Rattle.std.specs.Prelude.{if◌then◌else◌, Bool, true, not, ◌&&◌, List, [], ◌∷◌, ℕ, zero, suc, ◌-◌, eqb, leb}

-- how many characters there are, and the mark of one that is no hex digit
abbrev pub characters : ℕ
characters = 256

abbrev pub no_digit : ℕ
no_digit = 255

-- a character from one to another
abbrev pub from_to : ℕ → ℕ → ℕ → Bool
from_to a e c = leb a c && leb c e

-- 0 to 9, A to F and a to f have the values 0 to 15; any other character, `:` after `9` too, has the mark
unfoldable pub digit_value : ℕ → ℕ
digit_value c =
    if from_to 48 57 c then c - 48 else
    if from_to 65 70 c then c - 55 else
    if from_to 97 102 c then c - 87 else no_digit

abbrev pub is_digit : ℕ → Bool
is_digit c = not (eqb (digit_value c) no_digit)

abbrev pub all_digits : List ℕ → Bool
all_digits [] = true
all_digits (c ∷ cs) = is_digit c && all_digits cs

-- a function's values at n places, from i on
abbrev pub tabled : (ℕ → ℕ) → ℕ → ℕ → List ℕ
tabled f i zero = []
tabled f i (suc n) = f i ∷ tabled f (suc i) n
