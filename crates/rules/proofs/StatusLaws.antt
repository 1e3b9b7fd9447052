-- What the proofs of the small requests share.
-- Assumes nothing.
use mathlib.Core.Logic.{inl, inr}
use mathlib.Core.Path.{◌≡◌, refl, ◌∙◌}
use mathlib.Core.Bool.{true, false, or-true}
use mathlib.Core.List.{List, [], ◌∷◌, ◌++◌}
use Prim.Native.Nat.{ℕ, ◌+◌, ◌≤◌}
use native.Mathlib.Omega.{arith}
use lib.Dec.{eqb}
use lib.ListN.{length, drop}
use types.Run.{OneOf}
use borrow.Author.Tests.{le-leb, eq-eqb, ne_eqb}
use Rattle.words.specs.Words.{among, laid}
use Rattle.words.proofs.WordsLaws.{overlay_front}
use Rattle.config.specs.declared.config.Config.{Config}
use Rattle.rules.specs.Session.{Session, idle_with}
use Rattle.rules.specs.Result.{Answer, reply, answer, Done}
use Rattle.rules.specs.Requests.{clear_in}
use Rattle.rules.specs.Answered.{bare}

-- bytes laid over the front of a reply: "reply bytes past those sent stay"
pub reply_laid : (bytes p p' : List ℕ) → length bytes ≤ length p → p' ≡ laid 0 bytes p → p' ≡ bytes ++ drop (length bytes) p
unfolding laid
reply_laid bytes p p' h q = q ∙ rw (le-leb (0 + length bytes) (length p) (omega arith)) (overlay_front bytes p)

-- a number is one of an arm's keys, or none of them
pub one_of : (ks : List ℕ) (n : ℕ) → OneOf ks n → among n ks ≡ true
one_of [] n e = elim e [ ]
one_of (k ∷ []) n e = rw (eq-eqb n k e)
one_of (k ∷ k' ∷ ks) n (inl e) = rw (eq-eqb n k e)
one_of (k ∷ k' ∷ ks) n (inr r) = rw (one_of (k' ∷ ks) n r) (or-true (eqb n k))

pub none_of : (ks : List ℕ) (n : ℕ) → (OneOf ks n → ⊥) → among n ks ≡ false
none_of [] n h = refl
none_of (k ∷ []) n h = rw (ne_eqb n k h)
none_of (k ∷ k' ∷ ks) n h = rw (ne_eqb n k (λ e. h (inl e))) (none_of (k' ∷ ks) n (λ r. h (inr r)))

-- a request that clears in some states, and the busy count that it leaves
module _ (states : List ℕ) (busy : ℕ) (s : Session) (c : Config) (a : Answer) where
  pub clears : among s.state states ≡ true → a ≡ answer (reply c Done [] (idle_with busy)) → a ≡ answer (clear_in states busy (bare s c))
  clears q p = rw q p
