-- A number's digits: the last one, and those before it.
-- Assumes nothing.
use Rattle.std.specs.Prelude.{if◌then◌else◌}
use mathlib.Core.Path.{◌≡◌, sym, ap, ◌∙◌}
use mathlib.Core.List.{[], ◌∷◌, ◌++◌}
use Prim.Native.Nat.{ℕ, zero, suc, ◌+◌, ◌*◌, ◌/◌, ◌%◌, ◌≤◌, ◌<◌, ◌^◌, max}
use Rattle.std.proofs.Math.Nat.{pow-suc}
use native.Mathlib.Omega.{arith}
use lib.Dec.{ltb}
use lib.ListN.{length, length-append}
use borrow.Author.Tests.{lt-ltb, le-ltb}
use Rattle.lines.specs.Text.{most_digits, decimal_in, decimal}

-- the least number that has one digit more than k
abbrev pub tens : ℕ → ℕ
tens zero = 1
tens (suc k) = 10 * tens k

-- places that a number does not need change nothing
enough : (k n : ℕ) → n < tens (suc k) → decimal_in (suc k) n ≡ decimal_in (suc (suc k)) n
enough zero n h = rw (lt-ltb n 10 h)
enough (suc k) n h = ap (λ front. (if ltb n 10 then [] else front) ++ (48 + n % 10) ∷ []) (enough k (n / 10) (omega arith))

last_in : (k n : ℕ) → 10 ≤ n → n < tens (suc (suc k)) → decimal_in (suc (suc k)) n ≡ decimal_in (suc (suc k)) (n / 10) ++ (48 + n % 10) ∷ []
last_in k n h small = rw (le-ltb n 10 h) (ap (λ front. front ++ (48 + n % 10) ∷ []) (enough k (n / 10) (omega arith)))

-- the last digit stands after the digits of the tenth, and alone if there is none
pub decimal_last : (n : ℕ) → 10 ≤ n → n < tens most_digits → decimal n ≡ decimal (n / 10) ++ (48 + n % 10) ∷ []
unfolding decimal
decimal_last n h small = last_in 18 n h small

pub length_decimal_last : (n : ℕ) → 10 ≤ n → n < tens most_digits → length (decimal n) ≡ length (decimal (n / 10)) + 1
length_decimal_last n h small = ap length (decimal_last n h small) ∙ length-append (decimal (n / 10)) ((48 + n % 10) ∷ [])

pub decimal_one : (n : ℕ) → n < 10 → decimal n ≡ (48 + n) ∷ []
unfolding decimal
decimal_one n h =
    let e : n % 10 ≡ n = omega arith in
    rw (lt-ltb n 10 h) (rw e)

-- how many digits a number has, by the power of ten that it reaches; 0 has as many as 1
some_power : (k : ℕ) → 1 ≤ 10 ^ k
some_power zero = omega arith
some_power (suc k) = omega (arith, pow-suc 10 k, some_power k)

length_by_power : (k n : ℕ) → 10 ^ k ≤ n → n < 10 * 10 ^ k → n < tens most_digits → length (decimal n) ≡ k + 1
length_by_power zero n low high small = ap length (decimal_one n (omega (arith, high)))
length_by_power (suc k) n low high small =
    let more : 10 ^ suc k ≡ 10 ^ k * 10 = pow-suc 10 k in
    let tenth : length (decimal (n / 10)) ≡ k + 1
    = length_by_power k (n / 10) (omega (arith, more, low)) (omega (arith, more, high)) (omega (arith, small)) in
    omega (arith, tenth, length_decimal_last n (omega (arith, more, low, some_power k)) small)

pub length_by_log : (k n m : ℕ) → m ≡ max n 1 → 10 ^ k ≤ m → m < 10 * 10 ^ k → n < tens most_digits → length (decimal n) ≡ k + 1
length_by_log k zero m e low high small =
    ap length (decimal_one 0 (omega arith))
    ∙ sym (ap length (decimal_one 1 (omega arith)))
    ∙ length_by_power k 1 (omega (arith, e, low)) (omega (arith, e, high)) (omega arith)
length_by_log k (suc n) m e low high small = length_by_power k (suc n) (omega (arith, e, low)) (omega (arith, e, high)) small
