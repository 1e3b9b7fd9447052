-- Writing bytes in hex and reading pairs of digits undo each other, but for small letters.
-- Assumes nothing.
use mathlib.Core.Path.{◌≡◌, refl, sym, ap, ◌∙◌}
use mathlib.Core.Bool.{true}
use mathlib.Core.List.{List, [], ◌∷◌, ◌++◌}
use Prim.Native.Nat.{ℕ, zero, suc, ◌+◌, ◌*◌, ◌/◌, ◌%◌, ◌<◌}
use native.Mathlib.Omega.{arith}
use lib.ListN.{length}
use borrow.Author.Tests.{lt-ltb, le-ltb, le-leb, lt-leb}
use Rattle.lines.specs.Text.{hex_digit, hex_bytes}
use Rattle.record.specs.Digits.{digit_value, is_digit, all_digits, tabled}
use Rattle.record.specs.Record.{pairs}
use Rattle.record.specs.RoundTrip.{Bytes, capital, capitals}
use Rattle.record.proofs.Table.{entry}
use Rattle.record.proofs.DigitsLaws.{From, decimal, capital as letter, small, and_true, digit_from, digit_small, is_digit_lem}

-- ---- one digit

-- the digit of a value has that value: one test, computed for all sixteen
value_back : (v : ℕ) → v < 16 → digit_value (hex_digit v) ≡ v
unfolding digit_value
value_back v h = sym (entry (λ k. digit_value (hex_digit k)) 16 (tabled (λ k. k) 0 16) refl v h) ∙ entry (λ k. k) 16 (tabled (λ k. k) 0 16) refl v h

hex_digit_digit : (v : ℕ) → v < 16 → is_digit (hex_digit v) ≡ true
hex_digit_digit v h = is_digit_lem (hex_digit v) v (sym (value_back v h)) (λ q. omega arith)

-- a value's digit is the digit that gave the value, in capitals
from_back : (c v : ℕ) → From c v → hex_digit v ≡ capital c
from_back c v (decimal a b e) = rw (lt-ltb v 10 (omega arith), lt-leb 97 c (omega arith)) (omega arith)
from_back c v (letter a b e) = rw (le-ltb v 10 (omega arith), lt-leb 97 c (omega arith)) (omega arith)
from_back c v (small a b e) = rw (le-ltb v 10 (omega arith), le-leb 97 c a, le-leb c 102 b) (omega arith)

digit_back : (c : ℕ) → is_digit c ≡ true → hex_digit (digit_value c) ≡ capital c
digit_back c h = from_back c (digit_value c) (digit_from c h)

-- ---- all of them

pub bytes_cons : (b : ℕ) (bs : List ℕ) → b < 256 → Bytes bs → Bytes (b ∷ bs)
bytes_cons b bs h p zero = h
bytes_cons b bs h p (suc i) = p i

pub bytes_append : (x y : List ℕ) → Bytes x → Bytes y → Bytes (x ++ y)
bytes_append [] y p q i = q i
bytes_append (b ∷ x) y p q zero = p zero
bytes_append (b ∷ x) y p q (suc i) = bytes_append x y (λ j. p (suc j)) q i

module _ (b : ℕ) (h : b < 256) where
  high_back : digit_value (hex_digit (b / 16)) ≡ b / 16
  high_back = value_back (b / 16) (omega arith)

  low_back : digit_value (hex_digit (b % 16)) ≡ b % 16
  low_back = value_back (b % 16) (omega arith)

pub pairs_hex_bytes : (bs : List ℕ) → Bytes bs → pairs (hex_bytes bs) ≡ bs
pairs_hex_bytes [] p = refl
pairs_hex_bytes (b ∷ bs) p =
    let e : b / 16 * 16 + b % 16 ≡ b = omega arith in
    rw (high_back b (p 0), low_back b (p 0), e, pairs_hex_bytes bs (λ i. p (suc i)))

pub digits_hex_bytes : (bs : List ℕ) → Bytes bs → all_digits (hex_bytes bs) ≡ true
digits_hex_bytes [] p = refl
digits_hex_bytes (b ∷ bs) p =
    let h = p 0 in
    rw (hex_digit_digit (b / 16) (omega arith), hex_digit_digit (b % 16) (omega arith)) (digits_hex_bytes bs (λ i. p (suc i)))

pub hex_bytes_pairs : (cs : List ℕ) → all_digits cs ≡ true → length cs % 2 ≡ 0 → hex_bytes (pairs cs) ≡ capitals cs
hex_bytes_pairs [] d e = refl
hex_bytes_pairs (h ∷ []) d e = absurd (omega arith)
hex_bytes_pairs (h ∷ l ∷ cs) d e =
    let a = and_true (is_digit h) (all_digits (l ∷ cs)) d in
    let b = and_true (is_digit l) (all_digits cs) a.1 in
    let low = digit_small l b.0 in
    let u : (digit_value h * 16 + digit_value l) / 16 ≡ digit_value h = omega arith in
    let v : (digit_value h * 16 + digit_value l) % 16 ≡ digit_value l = omega arith in
    rw (u, v, digit_back h a.0, digit_back l b.0, hex_bytes_pairs cs b.1 (omega arith))

pub length_capitals : (cs : List ℕ) → length (capitals cs) ≡ length cs
length_capitals [] = refl
length_capitals (c ∷ cs) = ap suc (length_capitals cs)
