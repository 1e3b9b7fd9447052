-- Pieces that are handed on one after another: so many of them, and the next, are one more; and all of them are the whole text.
-- Assumes nothing.
use Rattle.std.proofs.Common.{◌≡◌, ℕ, suc, zero, ◌<◌, List, [], ◌∷◌, ◌++◌, length, take, sym, ap, subst, ◌∙◌, arith, append_assoc, append-nil}
use Rattle.std.specs.Prelude.{get_or}
use Rattle.std.proofs.Math.Seq.{take-length}
use Rattle.std.specs.declared.option.Option.{Option}
use Rattle.std.specs.Io.KnownBytes.{Appends}
use Rattle.std.proofs.KnownBytes.{Appends-trans}
use Rattle.plugrun.specs.Written.{pieces, in_a_row, written}
use Rattle.plugrun.specs.Turn.{IsPiece}

-- the texts before the n-th in a row, and the n-th behind them
one_more : (xs : List (List ℕ)) (n : ℕ) → n < length xs → in_a_row (take n xs) ++ get_or xs n [] ≡ in_a_row (take (suc n) xs)
one_more [] n h = absurd (omega (arith, h))
one_more (x ∷ xs) zero h = sym (append-nil x)
one_more (x ∷ xs) (suc n) h = append_assoc x (in_a_row (take n xs)) (get_or xs n []) ∙ ap (λ t. x ++ t) (one_more xs n (omega arith))

-- a writer that held the first n pieces holds one more after the next
pub handed : (file : List ℕ) (old a b : Option (List ℕ)) (n k : ℕ) (piece : List ℕ) → Appends old a (in_a_row (take n (pieces file)))
    → IsPiece file n piece → Appends a b piece → k ≡ suc n → Appends old b (in_a_row (take k (pieces file)))
handed file old a b n k piece p is q e =
    subst (λ (t : List ℕ). Appends old b t)
    (ap (λ (t : List ℕ). in_a_row (take n (pieces file)) ++ t) is.the_piece
    ∙ one_more (pieces file) n is.there
    ∙ ap (λ (m : ℕ). in_a_row (take m (pieces file))) (sym e))
    (Appends-trans old a b _ _ p q)

-- one that holds as many as there are holds the whole text
pub whole : (file : List ℕ) (old b : Option (List ℕ)) (n : ℕ) → n ≡ length (pieces file) → Appends old b (in_a_row (take n (pieces file)))
    → Appends old b (written file)
unfolding written
whole file old b n e p =
    subst (λ (t : List ℕ). Appends old b t)
    (ap (λ (m : ℕ). in_a_row (take m (pieces file))) e ∙ ap in_a_row (take-length (pieces file)))
    p
