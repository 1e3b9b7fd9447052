-- Laws of a line: where it ends, and where its characters do.
-- Assumes nothing.
use mathlib.Core.Logic.{◌⊎◌, inl, inr, ⊎_elim}
use mathlib.Core.Path.{◌≡◌, refl, sym, ap, ◌∙◌}
use mathlib.Core.Bool.{Bool, true, false, ◌&&◌}
use mathlib.Core.List.{List, [], ◌∷◌}
use Prim.Native.Nat.{ℕ, suc, ◌-◌, ◌≤◌, ◌<◌}
use native.Mathlib.Omega.{arith}
use lib.Dec.{eqb, ltb}
use lib.ListN.{length, drop, length-drop}
use lib.Seq.{drop-cons, drop-drop}
use borrow.Author.Tests.{ltb-true, ltb-false, eqb-true, lt-ltb, le-ltb, eq-eqb}
use Rattle.words.specs.Words.{byte_at}
use Rattle.listing.specs.Line.{index_of, index_after, line_feed, carriage_return, line_end, returns, without_return, is_record, same_bytes}

pub which : (b : Bool) → (b ≡ true) ⊎ (b ≡ false)
which true = inl refl
which false = inr refl

pub lt_or_ge : (a b : ℕ) → (a < b) ⊎ (b ≤ a)
lt_or_ge a b = ⊎_elim (λ e. inl (ltb-true a b e)) (λ e. inr (ltb-false a b e)) (which (ltb a b))

-- ---- the first line feed

index_after_le : (t : Bool) (k n : ℕ) → k ≤ n → index_after t k ≤ suc n
index_after_le true k n h = omega arith
index_after_le false k n h = omega arith

pub index_le : (b : ℕ) (l : List ℕ) → index_of b l ≤ length l
unfolding index_of
index_le b [] = omega arith
index_le b (x ∷ l) = index_after_le (eqb x b) (index_of b l) (length l) (index_le b l)

-- from the first on, it stands there at once
again : (t : Bool) (b x : ℕ) (l : List ℕ) → eqb x b ≡ t → index_of b (drop (index_of b l) l) ≡ 0 → index_of b (drop (index_after t (index_of b l)) (x ∷ l)) ≡ 0
unfolding index_of
again true b x l e h = rw e
again false b x l e h = h

index_again : (b : ℕ) (l : List ℕ) → index_of b (drop (index_of b l) l) ≡ 0
unfolding index_of
index_again b [] = refl
index_again b (x ∷ l) = again (eqb x b) b x l refl (index_again b l)

index_later : (b x : ℕ) (l : List ℕ) → eqb x b ≡ false → index_of b (x ∷ l) ≡ suc (index_of b l)
unfolding index_of
index_later b x l e = rw e

module _ (file : List ℕ) (at : ℕ) where
  pub line_within : at ≤ length file → line_end file at ≤ length file
  line_within h = omega (arith, index_le line_feed (drop at file), length-drop at file)

  pub line_again : line_end file (line_end file at) ≡ line_end file at
  line_again =
      let z : index_of line_feed (drop (line_end file at) file) ≡ 0
      = ap (index_of line_feed) (sym (drop-drop (index_of line_feed (drop at file)) at file)) ∙ index_again line_feed (drop at file) in
      omega arith

  -- from a carriage return right before it
  pub line_before : (p : ℕ) → suc p ≡ line_end file at → p < length file → byte_at file p ≡ carriage_return → line_end file p ≡ line_end file at
  line_before p e h r =
      let d : index_of line_feed (drop p file) ≡ suc (index_of line_feed (drop (suc p) file))
      = ap (index_of line_feed) (drop-cons file p 0 h) ∙ index_later line_feed (byte_at file p) (drop (suc p) file) (rw r) in
      let z : line_end file (suc p) ≡ suc p = ap (line_end file) e ∙ line_again ∙ sym e in
      omega arith

-- ---- the carriage return before it

and_true : (s t : Bool) → (s && t) ≡ true → (s ≡ true) × (t ≡ true)
and_true true t e = (refl, e)
and_true false t e = let z : ◌≡◌ {A = ℕ} 0 1 = cc in absurd (omega arith)

-- a line with a carriage return before its line feed
pub record Returns (file : List ℕ) (at end : ℕ) : Type 0 where
  pub some : at < end
  pub feed : end < length file
  pub return : byte_at file (end - 1) ≡ carriage_return

module _ (file : List ℕ) (at end : ℕ) where
  told : returns file at end ≡ true → Returns file at end
  told e =
      let a = and_true _ _ e in
      let b = and_true _ _ a.0 in
      record { some = ltb-true at end b.0; feed = ltb-true end (length file) b.1; return = eqb-true _ _ a.1 }

  pub cut : Returns file at end → without_return file at end ≡ end - 1
  unfolding without_return
  cut r = rw (lt-ltb at end r.some, lt-ltb end (length file) r.feed, r.return)

  -- the line goes up to its line feed, or to a carriage return before it
  pub cut_or_not : (without_return file at end ≡ end) ⊎ Returns file at end
  unfolding without_return
  cut_or_not = ⊎_elim (λ e. inr (told e)) (λ e. inl (rw e)) (which (returns file at end))

  pub not_cut_empty : end ≤ at → without_return file at end ≡ end
  unfolding without_return
  not_cut_empty h = rw (le-ltb at end h)

  pub not_cut_last : length file ≤ end → without_return file at end ≡ end
  not_cut_last h = ⊎_elim (λ e. e) (λ r. absurd (omega (arith, r.feed))) cut_or_not

  pub not_cut_other : (byte_at file (end - 1) ≡ carriage_return → ⊥) → without_return file at end ≡ end
  not_cut_other n = ⊎_elim (λ e. e) (λ r. absurd (n r.return)) cut_or_not

  pub cut_bounds : at ≤ end → (at ≤ without_return file at end) × (without_return file at end ≤ end)
  cut_bounds h = ⊎_elim (λ e. (omega arith, omega arith)) (λ r. let e = cut r in (omega (arith, r.some), omega arith)) cut_or_not

-- ---- records and marks

pub empty_no_record : (file : List ℕ) (at end : ℕ) → end ≤ at → is_record file at end ≡ false
empty_no_record file at end h = rw (le-ltb at end h)

pub record_some : (file : List ℕ) (at end : ℕ) → is_record file at end ≡ true → at < end
record_some file at end e = ltb-true at end (and_true _ _ e).0

pub same_refl : (bs : List ℕ) → same_bytes bs bs ≡ true
same_refl [] = refl
same_refl (b ∷ bs) = rw (eq-eqb b b refl) (same_refl bs)

pub same_equal : (bs cs : List ℕ) → same_bytes bs cs ≡ true → bs ≡ cs
same_equal [] [] e = refl
same_equal [] (c ∷ cs) e = let z : ◌≡◌ {A = ℕ} 0 1 = cc in absurd (omega arith)
same_equal (b ∷ bs) [] e = let z : ◌≡◌ {A = ℕ} 0 1 = cc in absurd (omega arith)
same_equal (b ∷ bs) (c ∷ cs) e =
    let a = and_true _ _ e in
    let h = eqb-true b c a.0 in
    let t = same_equal bs cs a.1 in
    cc

-- the answer of a comparison, both ways, is the definition's
pub same_answer : (r : Bool) (bs cs : List ℕ) → (r ≡ true → bs ≡ cs) × (bs ≡ cs → r ≡ true) → r ≡ same_bytes bs cs
same_answer true bs cs h = sym (rw (h.0 refl) (same_refl cs))
same_answer false bs cs h = ⊎_elim (λ e. h.1 (same_equal bs cs e) ∙ sym e) (λ e. sym e) (which (same_bytes bs cs))
