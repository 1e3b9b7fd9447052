-- The loop that reads pairs of digits: what is left to read, with what is read, comes to what all comes to.
-- Assumes nothing.
use Rattle.std.specs.Prelude.{if◌then◌else◌, None, Some}
use Rattle.std.proofs.Common.{◌≡◌, ℕ, zero, suc, ◌+◌, ◌-◌, ◌*◌, ◌/◌, ◌%◌, ◌<◌, ◌≤◌, List, [], ◌∷◌, length, get_or, take, drop}
use Rattle.std.proofs.Common.{Bool, true, false, refl, sym, eq-eqb, ne_eqb, set, ap, ◌∙◌, arith, length-drop, length-set, drop-cons}
use Rattle.std.proofs.lemmas.List.{drop-drop, take_rest}
use Rattle.std.proofs.Math.Bool.{and-false}
use Rattle.std.specs.Simd.{first_chunks}
use Rattle.words.specs.Words.{overlay}
use Rattle.words.proofs.WordsLaws.{overlay_append}
use Rattle.lines.proofs.RoomLaws.{byte_stands}
use Rattle.record.specs.Digits.{characters, no_digit, digit_value, is_digit, all_digits, tabled}
use Rattle.record.specs.Reader.{digit_read}
use Rattle.record.proofs.Table.{entry}
use Rattle.record.specs.Record.{pairs, sum, bytes_of}
use Rattle.record.proofs.DigitsLaws.{length_pairs}
use Rattle.record.proofs.RecordLaws.{sum_on}

-- ---- a character

-- what the table's entry of a character says
module _ (values : List ℕ) (table : values ≡ tabled digit_value 0 characters) (c : ℕ) (small : c < characters) where
  entry_is : get_or values c 0 ≡ digit_value c
  entry_is = entry digit_value characters values table c small

  pub no_entry : get_or values c 0 ≡ no_digit → None ≡ digit_read c
  no_entry h = let t = eq-eqb (digit_value c) no_digit (sym entry_is ∙ h) in rw t

  pub an_entry : (get_or values c 0 ≡ no_digit → ⊥) → Some (get_or values c 0) ≡ digit_read c
  an_entry h = let t = ne_eqb (digit_value c) no_digit (λ q. h (entry_is ∙ q)) in rw (t, entry_is)

digit_tests : (t : Bool) (v h : ℕ) → (if t then Some v else None) ≡ Some h → (t ≡ true) × (h ≡ v)
digit_tests true v h e = (refl, cc)
digit_tests false v h e = absurd (let z : ◌≡◌ {A = ℕ} 0 1 = cc in omega arith)

none_tests : (t : Bool) (v : ℕ) → (if t then Some v else None) ≡ None → t ≡ false
none_tests true v e = absurd (let z : ◌≡◌ {A = ℕ} 0 1 = cc in omega arith)
none_tests false v e = refl

-- the value that was read of a character, and that none was
pub digit_was : (c h : ℕ) → Some h ≡ digit_read c → (is_digit c ≡ true) × (h ≡ digit_value c)
digit_was c h e = digit_tests (is_digit c) (digit_value c) h (sym e)

pub digit_not : (c : ℕ) → None ≡ digit_read c → is_digit c ≡ false
digit_not c e = none_tests (is_digit c) (digit_value c) (sym e)

-- ---- all pairs

-- the characters that are left after the mark and i pairs
abbrev pub left : List ℕ → ℕ → List ℕ
left cs i = drop (1 + 2 * i) cs

-- all of them, as the code cuts them off
abbrev behind : List ℕ → ℕ → List ℕ
behind cs count = take (1 + 2 * count - 1) (drop 1 cs)

-- i pairs are read: the memory `before` holds their bytes at its front and is now `held`, and they come to `total`
pub record Going (cs before held : List ℕ) (i total : ℕ) : Type 0 where
  pub same_size : length held ≡ length before
  pub digits_left : all_digits (drop 1 cs) ≡ all_digits (left cs i)
  pub bytes_left : overlay i (pairs (left cs i)) held ≡ overlay 0 (bytes_of cs) before
  pub sum_left : (total + sum (pairs (left cs i))) % 256 ≡ sum (bytes_of cs) % 256
  pub small : total < 256

-- a pair among the chunks of two
chunk : (k i : ℕ) (xs : List ℕ) → i < k → get_or (first_chunks 2 k xs) i [] ≡ take 2 (drop (2 * i) xs)
chunk zero i xs h = absurd (omega arith)
chunk (suc k) zero xs h = refl
chunk (suc k) (suc i) xs h =
    let e : 2 + 2 * i ≡ 2 * suc i = omega arith in
    chunk k i (drop 2 xs) (omega arith) ∙ ap (take 2) (drop-drop (2 * i) 2 xs ∙ ap (λ j. drop j xs) e)

module _ (cs before : List ℕ) (count : ℕ) (pre : (length cs ≡ suc (2 * count)) × (count ≤ length before)) where
  -- the next pair, and what is left after it
  next_pair : (i : ℕ) → i < count → left cs i ≡ get_or cs (1 + 2 * i) 0 ∷ get_or cs (2 + 2 * i) 0 ∷ left cs (i + 1)
  next_pair i h =
      let e : suc (1 + 2 * i) ≡ 2 + 2 * i = omega arith in
      let f : suc (2 + 2 * i) ≡ 1 + 2 * (i + 1) = omega arith in
      drop-cons cs (1 + 2 * i) 0 (omega arith)
      ∙ ap (λ l. get_or cs (1 + 2 * i) 0 ∷ l) (rw e (drop-cons cs (2 + 2 * i) 0 (omega arith)))
      ∙ ap (λ j. get_or cs (1 + 2 * i) 0 ∷ get_or cs (2 + 2 * i) 0 ∷ drop j cs) f

  -- what is cut off is all that is behind the mark
  all_behind : behind cs count ≡ drop 1 cs
  all_behind = let e : 1 + 2 * count - 1 ≡ length cs - 1 = omega arith in rw e (take_rest cs 1)

  module _ (ps : List (List ℕ)) (front : ps ≡ first_chunks 2 (length (behind cs count) / 2) (behind cs count)) (held : List ℕ) (i total : ℕ)
      (g : Going cs before held i total) (more : i < length ps) (count_is : length ps ≡ length (behind cs count) / 2) where
    inside : i < count
    inside = let l = ap length all_behind ∙ length-drop 1 cs in omega (arith, more, count_is)

    -- the two characters of the next pair
    pub pair_is : get_or ps i [] ≡ get_or cs (1 + 2 * i) 0 ∷ get_or cs (2 + 2 * i) 0 ∷ []
    pair_is =
        ap (λ (q : List (List ℕ)). get_or q i []) front
        ∙ chunk (length (behind cs count) / 2) i (behind cs count) (omega (arith, more, count_is))
        ∙ ap (λ s. take 2 (drop (2 * i) s)) all_behind
        ∙ ap (take 2) (drop-drop (2 * i) 1 cs ∙ next_pair i inside)

    -- one of them is no digit
    pub no_high : is_digit (get_or cs (1 + 2 * i) 0) ≡ false → all_digits (drop 1 cs) ≡ false
    no_high d = g.digits_left ∙ rw (next_pair i inside, d)

    pub no_low : is_digit (get_or cs (2 + 2 * i) 0) ≡ false → all_digits (drop 1 cs) ≡ false
    no_low d = g.digits_left ∙ ap all_digits (next_pair i inside) ∙ rw d (and-false _)

    -- a pair of digits more
    pub going_more : (high low total' : ℕ)
        → (is_digit (get_or cs (1 + 2 * i) 0) ≡ true) × (high ≡ digit_value (get_or cs (1 + 2 * i) 0))
        → (is_digit (get_or cs (2 + 2 * i) 0) ≡ true) × (low ≡ digit_value (get_or cs (2 + 2 * i) 0))
        → total' ≡ (total + (high * 16 + low)) % 256
        → Going cs before (set held i (high * 16 + low)) (i + 1) total'
    going_more high low total' p q e =
        let b : ℕ = high * 16 + low in
        let n = next_pair i inside in
        let pair : pairs (left cs i) ≡ b ∷ pairs (left cs (i + 1)) = rw (n, p.1, q.1) in
        let digits : all_digits (left cs i) ≡ all_digits (left cs (i + 1)) = rw (n, p.0, q.0) in
        let l = length_pairs (left cs (i + 1)) in
        let k = length-drop (1 + 2 * (i + 1)) cs in
        let h = inside in
        let stored = (byte_stands i b held (omega arith)).text_laid in
        record {
          same_size = length-set held i b ∙ g.same_size;
          digits_left = g.digits_left ∙ digits;
          bytes_left = rw (stored, overlay_append i (b ∷ []) (pairs (left cs (i + 1))) held (omega arith)) (rw pair at g.bytes_left);
          sum_left = rw e (sum_on total b _ _ (rw pair at g.sum_left));
          small = omega arith;
        }
