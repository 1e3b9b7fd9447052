-- Laws of the walk: how it goes on from a field, and that from the start of an accepted job it meets the job's requests, in order.
-- Assumes nothing.
use Rattle.std.specs.Prelude.{Some, None}
use mathlib.Core.Path.{◌≡◌, refl, sym, ap, ◌∙◌}
use mathlib.Core.Logic.{⊎_elim}
use mathlib.Core.Bool.{true, false}
use mathlib.Core.List.{List, [], ◌∷◌, ◌++◌, append_assoc, append-nil}
use Prim.Native.Nat.{ℕ, zero, suc, ◌+◌, ◌-◌, ◌≤◌, ◌<◌}
use native.Mathlib.Omega.{arith}
use lib.ListN.{length}
use borrow.Author.Tests.{le-ltb}
use Rattle.job.specs.Field.{head_size, tag_at, length_at, value_at, end_at, request_tag, group_tag, by_tag, beyond}
use Rattle.job.specs.Verdict.{accepted, fields_verdict, verdict}
use Rattle.job.specs.Requests.{Span, span, requests_in, requests_of, HaveSetups}
use Rattle.job.specs.Walk.{walk_in, walk, first_met, met_start, met_size, InOrder}
use Rattle.job.proofs.FieldLaws.{Inside, which, lt_or_ge, eq_or_ne, by_request, by_group, by_other, end_beyond}
use Rattle.job.proofs.FieldLaws.{fits, not_beyond_later, field_group, request_size_lem}
use Rattle.job.proofs.VerdictLaws.{good, fields_more, both_accepted, file_accepted}
use Rattle.job.proofs.RequestsLaws.{none_beyond, first_held}

in_none : (n : ℕ) (file : List ℕ) (at : ℕ) → beyond file at (length file) ≡ true → walk_in n file at ≡ []
unfolding walk_in
in_none zero file at b = refl
in_none (suc n) file at b = simp b

in_some : (n : ℕ) (file : List ℕ) (at : ℕ) → beyond file at (length file) ≡ false
    → walk_in (suc n) file at
    ≡ by_tag (tag_at file at) (span (value_at at) (length_at file at) ∷ walk_in n file (end_at file at)) (walk_in n file (value_at at))
    (walk_in n file (end_at file at))
unfolding walk_in
in_some n file at b = simp b

-- a bound that does for the bytes left does not matter
enough : (n m : ℕ) (file : List ℕ) (at : ℕ) → length file ≤ at + n → length file ≤ at + m → walk_in n file at ≡ walk_in m file at
unfolding walk_in
enough zero m file at h k = sym (in_none m file at (end_beyond file at (length file) (omega arith)))
enough (suc n) zero file at h k = in_none (suc n) file at (end_beyond file at (length file) (omega arith))
enough (suc n) (suc m) file at h k =
    rw (enough n m file (value_at at) (omega arith) (omega arith), enough n m file (end_at file at) (omega arith) (omega arith))

one_more : (file : List ℕ) (at : ℕ) → walk file at ≡ walk_in (suc (length file)) file at
unfolding walk
one_more file at = enough (length file) (suc (length file)) file at (omega arith) (omega arith)

pub walk_none : (file : List ℕ) (at : ℕ) → beyond file at (length file) ≡ true → walk file at ≡ []
unfolding walk
walk_none file at b = in_none (length file) file at b

module _ (file : List ℕ) (at : ℕ) (b : beyond file at (length file) ≡ false) where
  walk_some : walk file at
      ≡ by_tag (tag_at file at) (span (value_at at) (length_at file at) ∷ walk file (end_at file at)) (walk file (value_at at)) (walk file (end_at file at))
  unfolding walk
  walk_some = one_more file at ∙ in_some (length file) file at b

  pub walk_request : tag_at file at ≡ request_tag → walk file at ≡ span (value_at at) (length_at file at) ∷ walk file (end_at file at)
  walk_request t = walk_some ∙ by_request _ _ _ _ t

  pub walk_group : tag_at file at ≡ group_tag → walk file at ≡ walk file (value_at at)
  walk_group t = walk_some ∙ by_group _ _ _ _ t

  pub walk_other : (tag_at file at ≡ request_tag → ⊥) → (tag_at file at ≡ group_tag → ⊥) → walk file at ≡ walk file (end_at file at)
  walk_other p q = walk_some ∙ by_other _ _ _ _ p q

-- ---- a turn of the loop that walks: it began at `from` and is at `at`, with the size of the field in a local

module _ (file : List ℕ) (from at : ℕ) (w : walk file from ≡ walk file at) where
  pub turn_none : beyond file at (length file) ≡ true → None ≡ first_met (walk file from)
  turn_none b = rw (w, walk_none file at b)

  module _ (size : ℕ) (i : Inside file at (length file) size) where
    pub turn_request : tag_at file at ≡ request_tag → Some (span (value_at at) size) ≡ first_met (walk file from)
    turn_request t = rw (w, walk_request file at i.not_beyond t, i.sized)

    pub turn_group : tag_at file at ≡ group_tag → walk file from ≡ walk file (value_at at)
    turn_group t = w ∙ walk_group file at i.not_beyond t

    pub turn_other : (tag_at file at ≡ request_tag → ⊥) → (tag_at file at ≡ group_tag → ⊥) → walk file from ≡ walk file (value_at at + size)
    turn_other p q = rw (w, i.sized) (walk_other file at i.not_beyond p q)

-- ---- one step of the walk

-- from a place on it meets this request, and then what it meets from behind it
pub record Steps (file : List ℕ) (at start size : ℕ) : Type 0 where
  pub met : walk file at ≡ span start size ∷ walk file (start + size)
  pub after : value_at at ≤ start
  pub tagged : tag_at file (start - head_size) ≡ request_tag
  pub sized : length_at file (start - head_size) ≡ size
  pub within : start + size ≤ length file

-- the same from an earlier place, from which the walk meets the same
from_earlier : (file : List ℕ) (at later start size : ℕ) → walk file at ≡ walk file later → at ≤ later → Steps file later start size → Steps file at start size
from_earlier file at later start size e h s =
    record { met = e ∙ s.met; after = omega (arith, s.after); tagged = s.tagged; sized = s.sized; within = s.within }

none_met : {A : Type 0} (file : List ℕ) (at start size : ℕ) → walk file at ≡ [] → first_met (walk file at) ≡ Some (span start size) → A
none_met file at start size e f = let g : None ≡ Some (span start size) = sym (ap first_met e) ∙ f in absurd (cc)

request_met : (start size start' size' : ℕ) → Some (span start size) ≡ Some (span start' size') → (start ≡ start') × (size ≡ size')
request_met start size start' size' e = (ap met_start e, ap met_size e)

-- the first number bounds the bytes left
steps_in : (n : ℕ) (file : List ℕ) (at start size : ℕ) → length file ≤ at + n → first_met (walk file at) ≡ Some (span start size) → Steps file at start size
steps_in zero file at start size h f = none_met file at start size (walk_none file at (end_beyond file at (length file) (omega arith))) f
steps_in (suc n) file at start size h f =
    ⊎_elim
    (λ (b : beyond file at (length file) ≡ true). none_met file at start size (walk_none file at b) f)
    (λ (b : beyond file at (length file) ≡ false).
    ⊎_elim
    (λ (t : tag_at file at ≡ request_tag).
    let w = walk_request file at b t in
    let e = request_met _ _ _ _ (sym (ap first_met w) ∙ f) in
    let here : start - head_size ≡ at = omega (arith, e.0) in
    record {
      met = rw (← e.0, ← e.1) w;
      after = omega (arith, e.0);
      tagged = rw here t;
      sized = rw here e.1;
      within = omega (arith, e.0, e.1, (fits file at (length file) b).1);
    })
    (λ (t : tag_at file at ≡ request_tag → ⊥).
    ⊎_elim
    (λ (u : tag_at file at ≡ group_tag).
    let w = walk_group file at b u in
    from_earlier file at (value_at at) start size w (omega arith) (steps_in n file (value_at at) start size (omega arith) (sym (ap first_met w) ∙ f)))
    (λ (u : tag_at file at ≡ group_tag → ⊥).
    let w = walk_other file at b t u in
    from_earlier file at (end_at file at) start size w (omega arith) (steps_in n file (end_at file at) start size (omega arith) (sym (ap first_met w) ∙ f)))
    (eq_or_ne (tag_at file at) group_tag))
    (eq_or_ne (tag_at file at) request_tag))
    (which (beyond file at (length file)))

pub steps : (file : List ℕ) (at start size : ℕ) → first_met (walk file at) ≡ Some (span start size) → Steps file at start size
steps file at start size f = steps_in (length file) file at start size (omega arith) f

pub no_more : (ss : List Span) → first_met ss ≡ None → ss ≡ []
no_more [] e = refl
no_more (s ∷ ss) e = absurd (cc)

-- ---- the requests of an accepted job

setups_append : (ss ts : List Span) → HaveSetups ss → HaveSetups ts → HaveSetups (ss ++ ts)
setups_append [] ts h k = k
setups_append (s ∷ ss) ts h k = (h.0, setups_append ss ts h.1 k)

-- the walk from the start of a list meets the list's requests, and then those from its end on; each has its setup
pub record Meets (file : List ℕ) (at end : ℕ) (ss : List Span) : Type 0 where
  pub in_order : walk file at ≡ ss ++ walk file end
  pub have_setups : HaveSetups ss

meets_none : (n : ℕ) (file : List ℕ) (at end : ℕ) → at ≤ end → end ≤ at → Meets file at end (requests_in n file at end)
meets_none n file at end h k =
    let e : at ≡ end = omega arith in
    rw (none_beyond n file at end (end_beyond file at end k)) (record { in_order = rw e; have_setups = tt })

meets : (n : ℕ) (file : List ℕ) (at end depth : ℕ) → at ≤ end → end ≤ at + n → end ≤ length file → fields_verdict n file at end depth ≡ accepted
    → Meets file at end (requests_in n file at end)
meets zero file at end depth h k l g = meets_none zero file at end h (omega arith)
meets (suc n) file at end depth h k l g =
    ⊎_elim
    (λ (q : at < end).
    let a = both_accepted _ _ (sym (fields_more n file at end depth q) ∙ g) in
    let o = good _ _ _ _ _ a.0 in
    let b : beyond file at (length file) ≡ false = not_beyond_later file at end (length file) l o.not_beyond in
    let rest = meets n file (end_at file at) end depth o.value_fits (omega arith) l a.1 in
    ⊎_elim
    (λ (t : tag_at file at ≡ request_tag).
    rw (first_held n file at end o.not_beyond, by_request _ _ _ _ t)
    (record {
      in_order = walk_request file at b t ∙ ap (λ ss. span (value_at at) (length_at file at) ∷ ss) rest.in_order;
      have_setups = (request_size_lem _ _ (rw t at o.not_refused), rest.have_setups);
    }))
    (λ (t : tag_at file at ≡ request_tag → ⊥).
    ⊎_elim
    (λ (u : tag_at file at ≡ group_tag).
    let accepted = sym (field_group _ file at end depth o.not_beyond o.not_refused u) ∙ a.0 in
    let fit = o.value_fits in
    let inside = meets n file (value_at at) (end_at file at) (depth + 1) (omega arith) (omega (arith, fit)) (omega (arith, fit)) accepted in
    let held = inside.have_setups in
    let more = rest.have_setups in
    rw (first_held n file at end o.not_beyond, by_group _ _ _ _ u)
    (record {
      in_order = walk_group file at b u ∙ inside.in_order ∙ rw (rest.in_order, append_assoc);
      have_setups = setups_append (requests_in n file (value_at at) (end_at file at)) (requests_in n file (end_at file at) end) held more;
    }))
    (λ (u : tag_at file at ≡ group_tag → ⊥).
    rw (first_held n file at end o.not_beyond, by_other _ _ _ _ t u)
    (record { in_order = walk_other file at b t u ∙ rest.in_order; have_setups = rest.have_setups }))
    (eq_or_ne (tag_at file at) group_tag))
    (eq_or_ne (tag_at file at) request_tag))
    (λ (q : end ≤ at). meets_none (suc n) file at end h q)
    (lt_or_ge at end)

-- the same of a whole job
pub walk_job : (file : List ℕ) → verdict file ≡ accepted → (walk file 0 ≡ requests_of file) × HaveSetups (requests_of file)
unfolding requests_of
walk_job file g =
    let a = file_accepted file g in
    let m = meets (length file) file 0 (length file) 0 (omega arith) (omega arith) (omega arith) a.1 in
    rw (le-ltb _ _ a.0)
    (m.in_order ∙ rw (walk_none file (length file) (end_beyond file (length file) (length file) (omega arith)), append-nil), m.have_setups)

pub in_order : InOrder
in_order file g = (walk_job file g).0
