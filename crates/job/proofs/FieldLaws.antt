-- Laws of one field: how far it reaches, and its verdict by the tests that lead to it.
-- Assumes nothing.
use Rattle.std.specs.Prelude.{if◌then◌else◌, Option, Some, None, Result, Ok, Err, MatchResult, IsErrAnd}
use Rattle.std.specs.Bool.{then_some}
use mathlib.Core.Path.{◌≡◌, refl, sym, ◌∙◌}
use mathlib.Core.Logic.{◌⊎◌, inl, inr, ⊎_elim}
use mathlib.Core.Bool.{Bool, true, false}
use mathlib.Core.List.{List}
use Prim.Native.Nat.{ℕ, suc, ◌+◌, ◌*◌, ◌≤◌, ◌<◌}
use native.Mathlib.Omega.{arith}
use lib.Dec.{ltb, leb, eqb}
use lib.ListN.{get_or}
use borrow.Author.Tests.{le-ltb, lt-ltb, le-leb, lt-leb, eq-eqb, ne_eqb, eqb-true, eqb-false, ltb-true, ltb-false}
use Rattle.job.specs.Field.{tag_at, length_at, value_at, end_at, request_tag, group_tag, by_tag, Cause, Beyond, beyond, tag_refusal}
use Rattle.job.specs.Verdict.{Verdict, Refusal, accepted, refused, or_held, field_verdict}
use Rattle.job.specs.Read.{reach_of}

-- ---- cases on numbers

pub which : (b : Bool) → (b ≡ true) ⊎ (b ≡ false)
which true = inl refl
which false = inr refl

pub lt_or_ge : (a b : ℕ) → (a < b) ⊎ (b ≤ a)
lt_or_ge a b = ⊎_elim (λ e. inl (ltb-true a b e)) (λ e. inr (ltb-false a b e)) (which (ltb a b))

pub eq_or_ne : (a b : ℕ) → (a ≡ b) ⊎ (a ≡ b → ⊥)
eq_or_ne a b = ⊎_elim (λ e. inl (eqb-true a b e)) (λ e. inr (eqb-false a b e)) (which (eqb a b))

-- ---- what a tag chooses

module _ {A : Type 0} (tag : ℕ) (request group other : A) where
  pub by_request : tag ≡ request_tag → by_tag tag request group other ≡ request
  by_request t = simp t

  pub by_group : tag ≡ group_tag → by_tag tag request group other ≡ group
  by_group t = simp t

  pub by_other : (tag ≡ request_tag → ⊥) → (tag ≡ group_tag → ⊥) → by_tag tag request group other ≡ other
  by_other p q = simp (ne_eqb _ _ p, ne_eqb _ _ q)

-- ---- how far a field reaches

-- the two bytes of the length, as the code reads them
pub length_at_bytes : (file : List ℕ) (at : ℕ) → length_at file at ≡ 256 * get_or file (at + 1) 0 + get_or file (at + 2) 0
length_at_bytes file at = let e : suc (at + 1) ≡ at + 2 = omega arith in rw e (omega arith)

is_beyond : (b : Bool) (n : ℕ) → (if b then None else Some n) ≡ None → b ≡ true
is_beyond true n e = refl
is_beyond false n e = cc

is_within : (b : Bool) (n size : ℕ) → (if b then None else Some n) ≡ Some size → (b ≡ false) × (size ≡ n)
is_within true n size e = let z : ◌≡◌ {A = ℕ} 0 1 = cc in absurd (omega arith)
is_within false n size e = (refl, cc)

-- what the code makes of a cause and the place beside it
pub placed : (P : Cause → Refusal → Type 0) (o : Result (Unit {0}) Cause) (m : Result (Unit {0}) Refusal) (at : ℕ)
    → ((c : Cause) (r : Refusal) → P c r → r ≡ record { cause = c; at = at })
    → MatchResult o (λ x. m ≡ Ok x) (λ c. IsErrAnd m (P c)) → m ≡ or_held o at accepted
placed P (Ok u) m at is e = e
placed P (Err c) (Ok u) at is e = absurd e
placed P (Err c) (Err r) at is e = rw (is c r e)

-- a value of a size lies within what ends at `end`
pub record Inside (file : List ℕ) (at end size : ℕ) : Type 0 where
  pub not_beyond : beyond file at end ≡ false
  pub sized : size ≡ length_at file at
  pub head_fits : value_at at ≤ end
  pub value_fits : value_at at + size ≤ end

module _ (file : List ℕ) (at end : ℕ) where
  -- no bytes left
  pub end_beyond : end ≤ at → beyond file at end ≡ true
  end_beyond h = simp (lt-ltb end (value_at at) (omega arith))

  pub reach_short : end < value_at at → None ≡ reach_of file at end
  unfolding reach_of
  reach_short h = simp (lt-ltb _ _ h)

  -- the code has the bytes behind the head and the length in locals
  pub reach_whole : (left size : ℕ) → value_at at + left ≡ end → size ≡ length_at file at → then_some (leb size left) size ≡ reach_of file at end
  unfolding reach_of
  reach_whole left size l e =
      let head : value_at at ≤ end = omega (arith, l) in
      ⊎_elim
      (λ (h : left < size). rw (lt-leb _ _ h, le-ltb _ _ head, lt-ltb end (end_at file at) (omega (arith, h, l, e))))
      (λ (h : size ≤ left). rw (le-leb _ _ h, le-ltb _ _ head, le-ltb end (end_at file at) (omega (arith, h, l, e)), e))
      (lt_or_ge left size)

  pub went_beyond : (r : Option ℕ) → r ≡ reach_of file at end → r ≡ None → beyond file at end ≡ true
  unfolding reach_of
  went_beyond r e f = is_beyond _ _ (sym e ∙ f)

  pub fits : beyond file at end ≡ false → (value_at at ≤ end) × (end_at file at ≤ end)
  fits e =
      ⊎_elim
      (λ (h : end < value_at at). let t = simp (lt-ltb _ _ h) at e in let z : ◌≡◌ {A = ℕ} 0 1 = cc in absurd (omega arith))
      (λ (h : value_at at ≤ end).
      ⊎_elim
      (λ (k : end < end_at file at).
      let t = simp (le-ltb _ _ h, lt-ltb _ _ k) at e in let z : ◌≡◌ {A = ℕ} 0 1 = cc in absurd (omega arith))
      (λ (k : end_at file at ≤ end). (h, k))
      (lt_or_ge end (end_at file at)))
      (lt_or_ge end (value_at at))

  -- and so within what ends later
  pub not_beyond_later : (later : ℕ) → end ≤ later → beyond file at end ≡ false → beyond file at later ≡ false
  not_beyond_later later h b =
      let f = fits b in
      simp (le-ltb later (value_at at) (omega (arith, f.0)), le-ltb later (end_at file at) (omega (arith, f.1)))

  -- what `reach_of` answered
  pub within : (r : Option ℕ) (size : ℕ) → r ≡ reach_of file at end → r ≡ Some size → Inside file at end size
  unfolding reach_of
  within r size e f =
      let w = is_within _ _ _ (sym e ∙ f) in
      let o = fits w.0 in
      record { not_beyond = w.0; sized = w.1; head_fits = o.0; value_fits = omega (arith, w.1, o.1) }

-- ---- the verdict on a field

module _ (inside : Verdict) (file : List ℕ) (at end depth : ℕ) where
  pub field_beyond : beyond file at end ≡ true → field_verdict inside file at end depth ≡ refused Beyond at
  unfolding field_verdict
  field_beyond b = simp b

  pub field_bad : (c : Cause) → beyond file at end ≡ false → tag_refusal (tag_at file at) (length_at file at) depth ≡ Err c
      → field_verdict inside file at end depth ≡ refused c at
  unfolding field_verdict
  field_bad c b r = simp (b, r)

  module _ (b : beyond file at end ≡ false) (r : tag_refusal (tag_at file at) (length_at file at) depth ≡ Ok tt) where
    pub field_single : (tag_at file at ≡ group_tag → ⊥) → field_verdict inside file at end depth ≡ accepted
    unfolding field_verdict
    field_single t = simp (b, r, ne_eqb _ _ t)

    pub field_group : tag_at file at ≡ group_tag → field_verdict inside file at end depth ≡ inside
    unfolding field_verdict
    field_group t = simp (b, r, eq-eqb _ _ t)

-- "four deep at most", "a request, 8 setup bytes then data": what a tag that refuses nothing says
pub group_depth : (size depth : ℕ) → tag_refusal group_tag size depth ≡ Ok tt → depth < 4
unfolding tag_refusal
group_depth size depth r =
    ⊎_elim
    (λ (h : depth < 4). h)
    (λ (h : 4 ≤ depth). let z = simp (le-leb _ _ h) at r in cc)
    (lt_or_ge depth 4)

pub request_size_lem : (size depth : ℕ) → tag_refusal request_tag size depth ≡ Ok tt → 8 ≤ size
unfolding tag_refusal
request_size_lem size depth r =
    ⊎_elim
    (λ (h : size < 8). let z = simp (lt-ltb _ _ h) at r in cc)
    (λ (h : 8 ≤ size). h)
    (lt_or_ge size 8)
