-- Laws of hex digits: the three ranges that they come from, and what pairs of them are worth.
-- Assumes nothing.
use Rattle.std.specs.Prelude.{if◌then◌else◌}
use mathlib.Core.Path.{◌≡◌, refl}
use mathlib.Core.Bool.{Bool, true, false, not, ◌&&◌}
use mathlib.Core.List.{List, [], ◌∷◌}
use Prim.Native.Nat.{ℕ, zero, suc, ◌-◌, ◌/◌, ◌≤◌, ◌<◌}
use native.Mathlib.Nat.{le_of_suc-le-suc}
use native.Mathlib.Omega.{arith}
use lib.Dec.{eqb, leb}
use lib.ListN.{length}
use borrow.Author.Tests.{leb-true, ne_eqb}
use Rattle.words.specs.Words.{byte_at}
use Rattle.record.specs.Digits.{no_digit, from_to, digit_value, is_digit, all_digits}
use Rattle.record.specs.Record.{pairs}

pub and_true : (a b : Bool) → (a && b) ≡ true → (a ≡ true) × (b ≡ true)
and_true true b h = (refl, h)
and_true false b h = absurd (let z : ◌≡◌ {A = ℕ} 0 1 = cc in omega arith)

between : (a e c : ℕ) → from_to a e c ≡ true → (a ≤ c) × (c ≤ e)
between a e c h =
    let both = and_true (leb a c) (leb c e) h in
    (leb-true a c both.0, leb-true c e both.1)

-- where a digit c comes from, and its value v
pub data From (c v : ℕ) : Type 0 where
  decimal : 48 ≤ c → c ≤ 57 → v ≡ c - 48 → From c v
  capital : 65 ≤ c → c ≤ 70 → v ≡ c - 55 → From c v
  small : 97 ≤ c → c ≤ 102 → v ≡ c - 87 → From c v

from_tests : (c : ℕ) (t u w : Bool) → from_to 48 57 c ≡ t → from_to 65 70 c ≡ u → from_to 97 102 c ≡ w
    → not (eqb (if t then c - 48 else if u then c - 55 else if w then c - 87 else no_digit) no_digit) ≡ true
    → From c (if t then c - 48 else if u then c - 55 else if w then c - 87 else no_digit)
from_tests c true u w p q r h = let b = between 48 57 c p in decimal b.0 b.1 refl
from_tests c false true w p q r h = let b = between 65 70 c q in capital b.0 b.1 refl
from_tests c false false true p q r h = let b = between 97 102 c r in small b.0 b.1 refl
from_tests c false false false p q r h = absurd (let z : ◌≡◌ {A = ℕ} 0 1 = cc in omega arith)

pub digit_from : (c : ℕ) → is_digit c ≡ true → From c (digit_value c)
unfolding digit_value
digit_from c h = from_tests c (from_to 48 57 c) (from_to 65 70 c) (from_to 97 102 c) refl refl refl h

from_small : (c v : ℕ) → From c v → v < 16
from_small c v (decimal a b e) = omega arith
from_small c v (capital a b e) = omega arith
from_small c v (small a b e) = omega arith

pub digit_small : (c : ℕ) → is_digit c ≡ true → digit_value c < 16
digit_small c h = from_small c (digit_value c) (digit_from c h)

-- a value that is not the mark
pub is_digit_lem : (c v : ℕ) → v ≡ digit_value c → (v ≡ no_digit → ⊥) → is_digit c ≡ true
is_digit_lem c v e h = rw (← e, ne_eqb v no_digit h)

-- one character that is no digit
pub all_digits_lem : (cs : List ℕ) (i : ℕ) → all_digits cs ≡ true → i < length cs → is_digit (byte_at cs i) ≡ true
all_digits_lem [] i d h = absurd (omega arith)
all_digits_lem (c ∷ cs) zero d h = (and_true (is_digit c) (all_digits cs) d).0
all_digits_lem (c ∷ cs) (suc i) d h = all_digits_lem cs i (and_true (is_digit c) (all_digits cs) d).1 (le_of_suc-le-suc h)

pub length_pairs : (cs : List ℕ) → length (pairs cs) ≡ length cs / 2
length_pairs [] = refl
length_pairs (h ∷ []) = refl
length_pairs (h ∷ l ∷ cs) = omega (arith, length_pairs cs)

-- pairs of digits are bytes
pub pairs_bytes : (cs : List ℕ) → all_digits cs ≡ true → (i : ℕ) → byte_at (pairs cs) i < 256
pairs_bytes [] d i = omega arith
pairs_bytes (h ∷ []) d i = omega arith
pairs_bytes (h ∷ l ∷ cs) d zero =
    let a = and_true (is_digit h) (all_digits (l ∷ cs)) d in
    let b = and_true (is_digit l) (all_digits cs) a.1 in
    omega (arith, digit_small h a.0, digit_small l b.0)
pairs_bytes (h ∷ l ∷ cs) d (suc i) =
    let a = and_true (is_digit h) (all_digits (l ∷ cs)) d in
    pairs_bytes cs (and_true (is_digit l) (all_digits cs) a.1).1 i
