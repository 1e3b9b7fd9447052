-- Laws of the verdict on a list of fields: how it follows from what the readers give each other, and what an accepted field is.
-- Assumes nothing.
use Rattle.std.specs.Prelude.{Result, Ok, Err}
use mathlib.Core.Path.{◌≡◌, refl, sym, ap, ◌∙◌}
use mathlib.Core.Logic.{⊎_elim}
use mathlib.Core.Bool.{true, false}
use mathlib.Core.List.{List}
use Prim.Native.Nat.{ℕ, zero, suc, ◌+◌, ◌≤◌, ◌<◌}
use native.Mathlib.Omega.{arith}
use lib.ListN.{length}
use borrow.Author.Tests.{le-leb, lt-leb, lt-ltb, le-ltb}
use Rattle.job.specs.Field.{tag_at, length_at, value_at, end_at, group_tag, Cause, TooLong, beyond, tag_refusal}
use Rattle.job.specs.Verdict.{Verdict, Refusal, accepted, and_then, or_held, field_verdict, fields_verdict, most_file, verdict}
use Rattle.job.specs.Read.{read_of, ReadsFields, ReadsField}
use Rattle.job.proofs.FieldLaws.{Inside, which, lt_or_ge, fits, field_beyond, field_bad, field_group}

-- ---- a refusal is not accepted, and what is read of a verdict says which it was

refused_not : {A : Type 0} (v : Verdict) (r : Refusal) → v ≡ Err r → v ≡ accepted → A
refused_not v r e g = absurd (cc)

bad_was : (v : Verdict) (x : ℕ) (r : Refusal) → read_of v x ≡ Err r → v ≡ Err r
unfolding read_of
bad_was (Ok u) x r e = cc
bad_was (Err q) x r e = cc

next_was : (v : Verdict) (x next : ℕ) → read_of v x ≡ Ok next → (v ≡ accepted) × (x ≡ next)
unfolding read_of
next_was (Ok u) x next e = (refl, cc)
next_was (Err r) x next e = absurd (cc)

-- ---- an accepted field

pub record Good (file : List ℕ) (at end depth : ℕ) : Type 0 where
  pub not_beyond : beyond file at end ≡ false
  pub not_refused : tag_refusal (tag_at file at) (length_at file at) depth ≡ Ok tt
  pub value_fits : end_at file at ≤ end

pub good : (inside : Verdict) (file : List ℕ) (at end depth : ℕ) → field_verdict inside file at end depth ≡ accepted → Good file at end depth
good inside file at end depth g =
    ⊎_elim
    (λ (b : beyond file at end ≡ true). refused_not _ _ (field_beyond inside file at end depth b) g)
    (λ (b : beyond file at end ≡ false).
    record { not_beyond = b; not_refused = by (tag_refusal (tag_at file at) (length_at file at) depth) b refl; value_fits = (fits file at end b).1 })
    (which (beyond file at end))
  where
    by : (t : Result (Unit {0}) Cause) → beyond file at end ≡ false → tag_refusal (tag_at file at) (length_at file at) depth ≡ t
        → tag_refusal (tag_at file at) (length_at file at) depth ≡ Ok tt
    by (Ok u) b r = r
    by (Err c) b r = refused_not _ _ (field_bad inside file at end depth c b r) g

-- ---- a list of fields

pub fields_none : (n : ℕ) (file : List ℕ) (at end depth : ℕ) → end ≤ at → accepted ≡ fields_verdict n file at end depth
unfolding fields_verdict
fields_none zero file at end depth h = refl
fields_none (suc n) file at end depth h = simp (le-leb _ _ h)

pub fields_more : (n : ℕ) (file : List ℕ) (at end depth : ℕ) → at < end
    → fields_verdict (suc n) file at end depth ≡ and_then
    (field_verdict (fields_verdict n file (value_at at) (end_at file at) (depth + 1)) file at end depth)
    (fields_verdict n file (end_at file at) end depth)
unfolding fields_verdict
fields_more n file at end depth h = simp (lt-leb _ _ h)

pub both_accepted : (v w : Verdict) → and_then v w ≡ accepted → (v ≡ accepted) × (w ≡ accepted)
unfolding and_then
both_accepted (Ok u) w e = (refl, e)
both_accepted (Err r) w e = refused_not _ _ refl e

-- r is read of the first field
module _ (file : List ℕ) (at end depth : ℕ) (r : Result ℕ Refusal) (reads : ReadsField r file at end depth) where
  pub fields_bad : (q : Refusal) → at < end → r ≡ Err q → ReadsFields (Err q) file at end depth
  unfolding and_then
  fields_bad q h e zero m = absurd (omega arith)
  fields_bad q h e (suc n) m = rw (fields_more n file at end depth h, bad_was _ _ _ (sym (reads n m) ∙ e))

  pub next_bounds : (next : ℕ) → r ≡ Ok next → (at + 3 ≤ next) × (next ≤ end)
  next_bounds next e =
      let w = next_was _ _ _ (sym (reads end (omega arith)) ∙ e) in
      let g = good _ _ _ _ _ w.0 in
      (omega (arith, w.1), omega (arith, w.1, g.value_fits))

  pub fields_next : (next : ℕ) (v : Verdict) → at < end → r ≡ Ok next → ReadsFields v file next end depth → ReadsFields v file at end depth
  unfolding and_then
  fields_next next v h e rest zero m = absurd (omega arith)
  fields_next next v h e rest (suc n) m =
      let w = next_was _ _ _ (sym (reads n m) ∙ e) in
      rw (fields_more n file at end depth h, w.0, w.1) (rest n (omega (arith, next_bounds next e)))

-- what is read of a field whose verdict is known
pub read_bad : (v : Verdict) (r : Refusal) (next : ℕ) → v ≡ Err r → Err r ≡ read_of v next
unfolding read_of
read_bad v r next e = rw e

pub read_next : (v : Verdict) (next next' : ℕ) → v ≡ accepted → next' ≡ next → Ok next' ≡ read_of v next
unfolding read_of
read_next v next next' e f = rw (e, f)

-- a reader's answer, with the place where it stopped
pub stopped_bad : (o : Result (Unit {0}) Cause) (c : Cause) (at : ℕ) → o ≡ Err c
    → read_of (or_held o at accepted) at ≡ Err (record { cause = c; at = at })
unfolding read_of
stopped_bad o c at e = rw e

pub stopped_next : (o : Result (Unit {0}) Cause) (at : ℕ) → o ≡ Ok tt → read_of (or_held o at accepted) at ≡ Ok at
unfolding read_of
stopped_next o at e = rw e

pub read_held : (o : Result (Unit {0}) Cause) (at end : ℕ) → (o ≡ Ok tt → at ≡ end) → read_of (or_held o at accepted) at ≡ read_of (or_held o at accepted) end
unfolding read_of
read_held (Ok u) at end e = rw (e refl)
read_held (Err c) at end e = refl

-- a group has the verdict v on its value, whose end the code has as a sum
pub group_held : (file : List ℕ) (at end depth size : ℕ) → Inside file at end size → tag_refusal (tag_at file at) (length_at file at) depth ≡ Ok tt
    → tag_at file at ≡ group_tag → (v : Verdict) → ReadsFields v file (value_at at) (value_at at + size) (depth + 1) → (n : ℕ) → end ≤ at + suc n
    → field_verdict (fields_verdict n file (value_at at) (end_at file at) (depth + 1)) file at end depth ≡ v
group_held file at end depth size i r t v reads n h =
    field_group _ file at end depth i.not_beyond r t
    ∙ sym (reads n (omega (arith, i.value_fits)) ∙ ap (λ (l : ℕ). fields_verdict n file (value_at at) (value_at at + l) (depth + 1)) i.sized)

-- an accepted file is an accepted list
pub file_accepted : (file : List ℕ) → verdict file ≡ accepted → (length file ≤ most_file) × (fields_verdict (length file) file 0 (length file) 0 ≡ accepted)
unfolding verdict
file_accepted file g =
    ⊎_elim
    (λ (h : most_file < length file). refused_not _ (record { cause = TooLong; at = 0 }) (simp (lt-ltb _ _ h)) g)
    (λ (h : length file ≤ most_file). (h, simp (le-ltb _ _ h) at g))
    (lt_or_ge most_file (length file))
