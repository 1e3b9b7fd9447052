-- The numbers of the job's answers: a verdict's by the fields that it goes through, a request's by the steps of the walk.
-- Assumes nothing.
use Rattle.std.specs.Prelude.{if◌then◌else◌, Option, Some, None, Result, Ok, Err}
use mathlib.Core.Path.{◌≡◌, refl}
use mathlib.Core.Logic.{⊎_elim}
use mathlib.Core.Bool.{Bool, true, false, ◌&&◌, not, or-true, false≢true}
use mathlib.Core.List.{List, [], ◌∷◌}
use Prim.Native.Nat.{ℕ, zero, suc, ◌+◌, ◌-◌, ◌≤◌, ◌<◌}
use native.Mathlib.Omega.{arith}
use lib.Dec.{eqb, leb, ltb}
use lib.ListN.{length}
use borrow.Author.Tests.{lt-ltb, le-ltb}
use Rattle.words.specs.Words.{among}
use Rattle.job.specs.Field.{tag_at, length_at, value_at, end_at, request_tag, group_tag, note_tag, setup_size, most_note, most_depth, beyond, tag_refusal}
use Rattle.job.specs.Field.{Cause, Unlisted, TooDeep, ShortRequest, LongNote, TooLong, cause_number}
use Rattle.job.specs.Verdict.{Verdict, refused, verdict_number, verdict_place, and_then, field_verdict, fields_verdict, verdict}
use Rattle.job.specs.Requests.{Span}
use Rattle.job.specs.Walk.{walk, first_met}
use Rattle.job.specs.Numbered.{VerdictsNumbered, MetTold, MetNumbered}
use Rattle.job.proofs.FieldLaws.{which, lt_or_ge, eq_or_ne, fits, field_beyond, field_bad, field_single, field_group}
use Rattle.job.proofs.VerdictLaws.{fields_none, fields_more}
use Rattle.job.proofs.WalkLaws.{steps, no_more}

-- ---- the verdict

abbrev causes : List ℕ
causes = 11 ∷ 12 ∷ 13 ∷ 14 ∷ 15 ∷ []

-- a verdict on fields before `end`: a refusal is one of the causes, at a place before it
abbrev Told : ℕ → Verdict → Type 0
Told end (Ok u) = Unit {0}
Told end (Err r) = (among (cause_number r.cause) causes ≡ true) × (r.at < end)

told_later : (end later : ℕ) (v : Verdict) → end ≤ later → Told end v → Told later v
told_later end later (Ok u) h t = tt
told_later end later (Err r) h t = (t.0, omega (arith, t.1))

told_then : (end : ℕ) (v w : Verdict) → Told end v → Told end w → Told end (and_then v w)
unfolding and_then
told_then end (Ok v) w t u = u
told_then end (Err r) w t u = t

-- what a tag refuses is one of the causes
abbrev AmongCauses : Result (Unit {0}) Cause → Type 0
AmongCauses (Ok u) = Unit {0}
AmongCauses (Err c) = among (cause_number c) causes ≡ true

pick : (t : Bool) (n m : Result (Unit {0}) Cause) → AmongCauses n → AmongCauses m → AmongCauses (if t then n else m)
pick true n m p q = p
pick false n m p q = q

tag_cause : (tag size depth : ℕ) → AmongCauses (tag_refusal tag size depth)
unfolding tag_refusal
tag_cause tag size depth =
    pick (not (among tag (request_tag ∷ group_tag ∷ note_tag ∷ []))) (Err Unlisted) _ refl (
    pick (eqb tag group_tag && leb most_depth depth) (Err TooDeep) _ refl (
    pick (eqb tag request_tag && ltb size setup_size) (Err ShortRequest) _ refl (
    pick (eqb tag note_tag && ltb most_note size) (Err LongNote) (Ok tt) refl tt)))

-- one field, by the verdict on what it holds: its own refusal stands at its tag
module _ (inside : Verdict) (file : List ℕ) (at end depth : ℕ) (here : at < end) (held : Told (end_at file at) inside) where
  field_told : Told end (field_verdict inside file at end depth)
  field_told =
      ⊎_elim
      (λ (b : beyond file at end ≡ true). rw (field_beyond inside file at end depth b) (refl, here))
      (λ (b : beyond file at end ≡ false). by (tag_refusal (tag_at file at) (length_at file at) depth) b refl)
      (which (beyond file at end))
    where
      by : (t : Result (Unit {0}) Cause) → beyond file at end ≡ false → tag_refusal (tag_at file at) (length_at file at) depth ≡ t
          → Told end (field_verdict inside file at end depth)
      by (Ok u) b r =
          ⊎_elim
          (λ (t : tag_at file at ≡ group_tag).
          rw (field_group inside file at end depth b r t) (told_later (end_at file at) end inside (fits file at end b).1 held))
          (λ (t : tag_at file at ≡ group_tag → ⊥). rw (field_single inside file at end depth b r t) tt)
          (eq_or_ne (tag_at file at) group_tag)
      by (Err c) b r = rw (field_bad inside file at end depth c b r) (rw r at (tag_cause (tag_at file at) (length_at file at) depth), here)

fields_told : (n : ℕ) (file : List ℕ) (at end depth : ℕ) → Told end (fields_verdict n file at end depth)
unfolding fields_verdict
fields_told zero file at end depth = tt
fields_told (suc n) file at end depth =
    ⊎_elim
    (λ (h : at < end).
    let inside = fields_told n file (value_at at) (end_at file at) (depth + 1) in
    let rest = fields_told n file (end_at file at) end depth in
    rw (fields_more n file at end depth h) (told_then end _ _ (field_told _ file at end depth h inside) rest))
    (λ (h : end ≤ at). rw (← fields_none (suc n) file at end depth h) tt)
    (lt_or_ge at end)

-- a verdict of which this is told, in numbers
told_number : (end : ℕ) (v : Verdict) → Told end v → among (verdict_number v) (0 ∷ causes) ≡ true
told_number end (Ok u) t = refl
told_number end (Err r) t = rw t.0 (or-true (eqb (cause_number r.cause) 0))

told_place : (end : ℕ) (v : Verdict) → Told end v → (verdict_number v ≡ 0 → ⊥) → verdict_place v < end
told_place end (Ok u) t n = absurd (n refl)
told_place end (Err r) t n = t.1

told_accepted : (end : ℕ) (v : Verdict) → Told end v → verdict_number v ≡ 0 → verdict_place v ≡ 0
told_accepted end (Ok u) t q = refl
told_accepted end (Err r) t q = let z = rw q at t.0 in absurd (false≢true z)

file_told : (file : List ℕ) → length file ≤ 16384 → Told (length file) (verdict file)
unfolding verdict
file_told file h = rw (le-ltb 16384 (length file) h) (fields_told (length file) file 0 (length file) 0)

file_long : (file : List ℕ) → 16384 < length file → verdict file ≡ refused TooLong 0
unfolding verdict
file_long file h = rw (lt-ltb 16384 (length file) h)

pub verdicts_numbered : VerdictsNumbered
verdicts_numbered = record {
  too_long = λ file h. rw (file_long file h) (refl, refl);
  number = λ file h. told_number (length file) (verdict file) (file_told file h);
  place = λ file h n. told_place (length file) (verdict file) (file_told file h) n;
  accepted = λ file q.
      ⊎_elim
      (λ (h : 16384 < length file). absurd (let z = rw (file_long file h) at q in omega arith))
      (λ (h : length file ≤ 16384). told_accepted (length file) (verdict file) (file_told file h) q)
      (lt_or_ge 16384 (length file));
}

-- ---- the walk

pub met_numbered : MetNumbered
met_numbered file at = by (first_met (walk file at)) refl
  where
    by : (m : Option Span) → first_met (walk file at) ≡ m → MetTold file at m
    by (Some m) q =
        let s = steps file at m.start m.size q in
        let head : m.start - 3 + 1 ≡ m.start - 2 = omega (arith, s.after) in
        record {
          behind = λ _. s.after;
          tag = λ _. s.tagged;
          size = λ _. rw head at s.sized;
          in_file = λ _. s.within;
          no_more = λ z. absurd (omega arith);
        }
    by None q = record {
      behind = λ z. absurd (omega arith);
      tag = λ z. absurd (omega arith);
      size = λ z. absurd (omega arith);
      in_file = λ z. absurd (omega arith);
      no_more = λ _. no_more (walk file at) q;
    }
