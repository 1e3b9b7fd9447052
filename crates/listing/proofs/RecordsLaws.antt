-- Laws of the records of a file: how they go on from a line, and that the walk meets them in order.
-- Assumes nothing.
use Rattle.std.specs.Prelude.{if◌then◌else◌, Option, None, Some}
use mathlib.Core.Logic.{⊎_elim}
use mathlib.Core.Path.{◌≡◌, refl, sym, ap, ◌∙◌}
use mathlib.Core.Bool.{Bool, true, false}
use mathlib.Core.List.{List, [], ◌∷◌}
use Prim.Native.Nat.{ℕ, zero, suc, ◌+◌, ◌-◌, ◌≤◌, ◌<◌}
use native.Mathlib.Numerals.{add-one}
use native.Mathlib.Omega.{arith}
use lib.Dec.{leb, ltb}
use lib.ListN.{length}
use borrow.Author.Tests.{le-leb, lt-leb}
use Rattle.listing.specs.Line.{line_end, without_return, text_end, is_record}
use Rattle.listing.specs.Records.{Span, span, most_file, records_in, records_from, records_of, first_met, walked_on, walked, InOrder}
use Rattle.listing.proofs.LineLaws.{which, lt_or_ge, line_within, line_again, line_before, cut, cut_or_not, not_cut_empty, cut_bounds}
use Rattle.listing.proofs.LineLaws.{Returns, empty_no_record, record_some}

in_none : (n : ℕ) (file : List ℕ) (at : ℕ) → length file ≤ at → records_in n file at ≡ []
unfolding records_in
in_none zero file at h = refl
in_none (suc n) file at h = simp (le-leb _ _ h)

-- a bound that does for the bytes left does not matter
enough : (n m : ℕ) (file : List ℕ) (at : ℕ) → length file ≤ at + n → length file ≤ at + m → records_in n file at ≡ records_in m file at
unfolding records_in
enough zero m file at h k = sym (in_none m file at (omega arith))
enough (suc n) zero file at h k = in_none (suc n) file at (omega arith)
enough (suc n) (suc m) file at h k = rw (enough n m file (suc (line_end file at)) (omega arith) (omega arith))

one_more : (file : List ℕ) (at : ℕ) → records_from file at ≡ records_in (suc (length file)) file at
unfolding records_from
one_more file at = enough (length file) (suc (length file)) file at (omega arith) (omega arith)

pub from_none : (file : List ℕ) (at : ℕ) → length file ≤ at → records_from file at ≡ []
unfolding records_from
from_none file at h = in_none (length file) file at h

module _ (file : List ℕ) (at : ℕ) (h : at < length file) where
  from_some : records_from file at
      ≡ (if is_record file at (text_end file at) then span at (text_end file at) ∷ records_from file (suc (line_end file at)) else
      records_from file (suc (line_end file at)))
  unfolding records_from records_in
  from_some = one_more file at ∙ simp (lt-leb _ _ h)

  pub from_record : is_record file at (text_end file at) ≡ true → records_from file at ≡ span at (text_end file at) ∷ records_from file (suc (line_end file at))
  from_record e = from_some ∙ rw e

  pub from_other : is_record file at (text_end file at) ≡ false → records_from file at ≡ records_from file (suc (line_end file at))
  from_other e = from_some ∙ rw e

-- ---- no more records than bytes

one_or_none : (t u : Bool) (s : Span) (ss : List Span) (n : ℕ) → length ss ≤ n → length (if t then [] else if u then s ∷ ss else ss) ≤ suc n
one_or_none true u s ss n h = omega arith
one_or_none false true s ss n h = omega arith
one_or_none false false s ss n h = omega arith

in_few : (n : ℕ) (file : List ℕ) (at : ℕ) → length (records_in n file at) ≤ n
unfolding records_in
in_few zero file at = omega arith
in_few (suc n) file at =
    one_or_none (leb (length file) at) (is_record file at (text_end file at)) (span at (text_end file at)) (records_in n file (suc (line_end file at))) n
    (in_few n file (suc (line_end file at)))

pub records_few : (file : List ℕ) → length (records_of file) ≤ length file
unfolding records_of records_from
records_few file = either (ltb most_file (length file)) where
  either : (t : Bool) → length (if t then [] else records_in (length file) file 0) ≤ length file
  either true = omega arith
  either false = in_few (length file) file 0

-- ---- from the end of a line's characters on the same follows as from behind the line

-- nothing but the line's end stands from p on
blank_from : (file : List ℕ) (p e : ℕ) → line_end file p ≡ e → text_end file p ≡ p → p ≤ e → records_from file p ≡ records_from file (suc e)
blank_from file p e l t h =
    ⊎_elim
    (λ (s : p < length file).
    from_other file p s (empty_no_record file p (text_end file p) (omega arith)) ∙ ap (λ k. records_from file (suc k)) l)
    (λ (s : length file ≤ p). from_none file p s ∙ sym (from_none file (suc e) (omega arith)))
    (lt_or_ge p (length file))

from_end : (file : List ℕ) (at : ℕ) → records_from file (text_end file at) ≡ records_from file (suc (line_end file at))
from_end file at =
    let e = line_end file at in
    ⊎_elim
    (λ (q : text_end file at ≡ e).
    ap (records_from file) q ∙ blank_from file e e (line_again file at) (rw (line_again file at) (not_cut_empty file e e (omega arith))) (omega arith))
    (λ (r : Returns file at e).
    let p : ℕ = e - 1 in
    let l : line_end file p ≡ e = line_before file at p (omega (arith, r.some)) (omega (arith, r.feed)) r.return in
    let again : Returns file p e = record { some = omega (arith, r.some); feed = r.feed; return = r.return } in
    ap (records_from file) (cut file at e r) ∙ blank_from file p e l (rw l (cut file p e again)) (omega arith))
    (cut_or_not file at e)

-- ---- one step of the walk

-- from a place on comes this record, and then what comes from its end on
pub record Steps (file : List ℕ) (at start end : ℕ) : Type 0 where
  pub met : records_from file at ≡ span start end ∷ records_from file end
  pub after : at ≤ start
  pub some : start < end
  pub within : end ≤ length file

from_earlier : (file : List ℕ) (at later start end : ℕ) → records_from file at ≡ records_from file later → at ≤ later
    → Steps file later start end → Steps file at start end
from_earlier file at later start end e h s = record { met = e ∙ s.met; after = omega (arith, s.after); some = s.some; within = s.within }

none_met : {A : Type 0} (file : List ℕ) (at start end : ℕ) → records_from file at ≡ [] → first_met (records_from file at) ≡ Some (span start end) → A
none_met file at start end e f = let g : None ≡ Some (span start end) = sym (ap first_met e) ∙ f in cc

record_met : (start end start' end' : ℕ) → Some (span start end) ≡ Some (span start' end') → (start ≡ start') × (end ≡ end')
record_met start end start' end' e = (ap start_of e, ap end_of e) where
  start_of : Option Span → ℕ
  start_of None = 0
  start_of (Some s) = s.start

  end_of : Option Span → ℕ
  end_of None = 0
  end_of (Some s) = s.end

-- the line at a place is a record
here : (file : List ℕ) (at : ℕ) → at < length file → is_record file at (text_end file at) ≡ true → Steps file at at (text_end file at)
here file at h r =
    let w = line_within file at (omega arith) in
    let b = cut_bounds file at (line_end file at) (omega arith) in
    record {
      met = from_record file at h r ∙ ap (λ ss. span at (text_end file at) ∷ ss) (sym (from_end file at));
      after = omega arith;
      some = record_some file at (text_end file at) r;
      within = omega (arith, w, b.1);
    }

-- the first number bounds the bytes left
steps_in : (n : ℕ) (file : List ℕ) (at start end : ℕ) → length file ≤ at + n → first_met (records_from file at) ≡ Some (span start end)
    → Steps file at start end
steps_in zero file at start end h f = none_met file at start end (from_none file at (omega arith)) f
steps_in (suc n) file at start end h f =
    ⊎_elim
    (λ (s : at < length file).
    ⊎_elim
    (λ (r : is_record file at (text_end file at) ≡ true).
    let e = record_met _ _ _ _ (sym (ap first_met (from_record file at s r)) ∙ f) in
    rw (← e.0, ← e.1) (here file at s r))
    (λ (r : is_record file at (text_end file at) ≡ false).
    let w = from_other file at s r in
    from_earlier
    file
    at
    (suc (line_end file at))
    start
    end
    w
    (omega arith)
    (steps_in n file (suc (line_end file at)) start end (omega arith) (sym (ap first_met w) ∙ f)))
    (which (is_record file at (text_end file at))))
    (λ (s : length file ≤ at). none_met file at start end (from_none file at s) f)
    (lt_or_ge at (length file))

pub steps : (file : List ℕ) (at start end : ℕ) → first_met (records_from file at) ≡ Some (span start end) → Steps file at start end
steps file at start end f = steps_in (length file) file at start end (omega arith) f

pub no_more : (ss : List Span) → first_met ss ≡ None → ss ≡ []
no_more [] e = refl
no_more (s ∷ ss) e = cc

-- ---- the whole walk

-- one step, given that the walk goes right from any later place on
walk_on : (n : ℕ) (file : List ℕ) (at : ℕ) (ss : List Span) → records_from file at ≡ ss → length file ≤ at + suc n
    → ((p : ℕ) → length file ≤ p + n → walked n file p ≡ records_from file p)
    → walked_on (walked n file) (first_met ss) ≡ ss
walk_on n file at [] e h next = refl
walk_on n file at (s ∷ ss) e h next =
    let t = steps file at s.start s.end (ap first_met e) in
    ap (λ rest. span s.start s.end ∷ rest) (next s.end (omega (arith, t.after, t.some))) ∙ sym t.met ∙ e

walk_from : (n : ℕ) (file : List ℕ) (at : ℕ) → length file ≤ at + n → walked n file at ≡ records_from file at
unfolding walked
walk_from zero file at h = sym (from_none file at (omega arith))
walk_from (suc n) file at h = walk_on n file at (records_from file at) refl h (walk_from n file)

pub in_order : InOrder
in_order file = walk_from (length file) file 0 (omega arith)

-- ---- a turn of the loop that looks for a record: it began at `from` and is at `at`; feed and end are in locals

module _ (file : List ℕ) (from at : ℕ) (w : records_from file from ≡ records_from file at) where
  pub turn_none : length file ≤ at → None ≡ first_met (records_from file from)
  turn_none h = rw (w, from_none file at h)

  module _ (feed end : ℕ) (t : Bool) (h : at < length file) (l : feed ≡ line_end file at) (c : end ≡ without_return file at feed)
      (q : t ≡ is_record file at end) where
    ends : end ≡ text_end file at
    ends = c ∙ ap (without_return file at) l

    told : t ≡ is_record file at (text_end file at)
    told = q ∙ ap (is_record file at) ends

    pub turn_record : t ≡ true → Some (span at end) ≡ first_met (records_from file from)
    turn_record y = rw (w, from_record file at h (sym told ∙ y)) (ap (λ e. Some (span at e)) ends)

    pub turn_other : t ≡ false → records_from file from ≡ records_from file (feed + 1)
    turn_other n = w ∙ from_other file at h (sym told ∙ n) ∙ ap (records_from file) (sym (add-one feed ∙ ap suc l))

-- ---- a turn of the loop that counts: so many were counted before `at`

module _ (file : List ℕ) (count at : ℕ) (sum : count + length (records_from file at) ≡ length (records_from file 0)) where
  module _ (start end : ℕ) (m : first_met (records_from file at) ≡ Some (span start end)) where
    pub counted_one : count + 1 + length (records_from file end) ≡ length (records_from file 0)
    counted_one = omega (arith, ap length (steps file at start end m).met)

  pub counted_all : first_met (records_from file at) ≡ None → count ≡ length (records_from file 0)
  counted_all m = omega (arith, ap length (no_more (records_from file at) m))
