-- `job::verdict::read_fields` and `read_field` meet their contracts: each arm is a line of `fields_verdict` or of `field_verdict`, at every
-- bound that is large enough. They call each other; bytes left and depth left, added, are the number that falls.
-- Assumes nothing.
use Rattle.std.proofs.Common.{◌≡◌, ℕ, List, Ok, sym, ◌∙◌, arith}
use Rattle.std.proofs.lemmas.Result.{err_from_is_err_and}
use Rattle.job.specs.Field.{tag_at, length_at, tag_refusal}
use Rattle.job.specs.Read.{read_of}
use Rattle.job.proofs.FieldLaws.{Inside, went_beyond, within, field_beyond, field_bad, field_single, group_depth}
use Rattle.job.proofs.VerdictLaws.{fields_none, fields_bad, fields_next, next_bounds, read_bad, read_next, read_held, stopped_bad, stopped_next, group_held}
use Rattle.job.proofs.verdict.+read_field_read_fields.Goals as goal

pub read_field-returns-in_default : goal.read_field-returns-in_default
unfolding read_of
read_field-returns-in_default t c n h =
    read_bad _ _ _ (field_beyond _ _ _ _ _ (went_beyond _ _ _ _ c.reach_of.ensures c.in_default.is))

pub read_field-bounds-file-at : goal.read_field-bounds-file-at
read_field-bounds-file-at t c =
    let i = within _ _ _ _ _ c.reach_of.ensures c.in-Some.is in
    omega (arith, i.head_fits)

pub read_field-returns-in_err-tag_refusal : goal.read_field-returns-in_err-tag_refusal
unfolding read_of
read_field-returns-in_err-tag_refusal t c n h =
    let p = err_from_is_err_and c.from_residual.result c.from_residual.ensures.1 in
    let i = within _ _ _ _ _ c.reach_of.ensures c.in-Some.is in
    let r = sym c.tag_refusal.ensures ∙ c.in_err-tag_refusal.was in
    rw (p.1, p.2) (read_bad _ _ _ (field_bad _ _ _ _ _ _ i.not_beyond (rw (← i.sized) r)))

pub read_field-overflow_add-next : goal.read_field-overflow_add-next
read_field-overflow_add-next t c =
    let i = within _ _ _ _ _ c.reach_of.ensures c.in-Some.is in
    omega (arith, i.value_fits)

-- its tag refuses nothing
passed : (file : List ℕ) (at end size depth : ℕ) → Inside file at end size → tag_refusal (tag_at file at) size depth ≡ Ok tt
    → tag_refusal (tag_at file at) (length_at file at) depth ≡ Ok tt
passed file at end size depth i e = rw (← i.sized) e

pub read_field-read_fields-requires : goal.read_field-read_fields-requires
read_field-read_fields-requires t c =
    let i = within _ _ _ _ _ c.reach_of.ensures c.in-Some.is in
    let q = sym c.tag_refusal.ensures ∙ c.in_ok-tag_refusal.was in
    let d = group_depth _ _ (rw c.if-tag-eq-GROUP.true at q) in
    (omega (arith, i.value_fits, d), (omega arith, omega (arith, i.value_fits), omega (arith, d)))

pub read_field-returns-then-tag-eq-GROUP : goal.read_field-returns-then-tag-eq-GROUP
read_field-returns-then-tag-eq-GROUP t c n h =
    let i = within _ _ _ _ _ c.reach_of.ensures c.in-Some.is in
    let q = passed _ _ _ _ _ i (sym c.tag_refusal.ensures ∙ c.in_ok-tag_refusal.was) in
    let v = group_held _ _ _ _ _ i q c.if-tag-eq-GROUP.true _ c.read_fields.ensures.reads n h in
    rw (v, ← i.sized) (read_held _ _ _ c.read_fields.ensures.ends)

pub read_field-returns : goal.read_field-returns
unfolding read_of
read_field-returns t c n h =
    let i = within _ _ _ _ _ c.reach_of.ensures c.in-Some.is in
    let q = passed _ _ _ _ _ i (sym c.tag_refusal.ensures ∙ c.in_ok-tag_refusal.was) in
    read_next _ _ _ (field_single _ _ _ _ _ i.not_beyond q c.if-tag-eq-GROUP.false) (omega (arith, i.sized))

pub read_fields-loop-at-init : goal.read_fields-loop-at-init
read_fields-loop-at-init t c = (omega arith, omega arith, λ v r. r)

pub read_fields-read_field-requires : goal.read_fields-read_field-requires
read_fields-read_field-requires t c = (omega arith, (omega arith, omega arith, omega arith))

pub read_fields-loop-at-smaller : goal.read_fields-loop-at-smaller
read_fields-loop-at-smaller t c =
    let b = next_bounds _ _ _ _ _ c.read_field.ensures _ (stopped_next _ _ c.in_ok-read_field.was) in
    omega (arith, b)

pub read_fields-loop-at-preserved : goal.read_fields-loop-at-preserved
read_fields-loop-at-preserved t c =
    let e = stopped_next _ c.read_field.new.at c.in_ok-read_field.was in
    let b = next_bounds _ _ _ _ _ c.read_field.ensures _ e in
    let whole = c.loop-at.invariant.2 in
    (omega (arith, b), b.1, λ v r. whole v (fields_next _ _ _ _ _ c.read_field.ensures _ _ (omega arith) e r))

pub read_fields-returns-in_err-read_field-clause-reads : goal.read_fields-returns-in_err-read_field-clause-reads
read_fields-returns-in_err-read_field-clause-reads t c =
    let p = err_from_is_err_and c.from_residual.result c.from_residual.ensures.1 in
    let bad = fields_bad _ _ _ _ _ c.read_field.ensures _ (omega arith) (stopped_bad _ _ _ c.in_err-read_field.was) in
    rw (p.1, p.2) (c.loop-at.invariant.2 _ bad)

pub read_fields-returns-clause-reads : goal.read_fields-returns-clause-reads
read_fields-returns-clause-reads t c = c.loop-at.invariant.2 _ (λ n h. fields_none _ _ _ _ _ (omega arith))

pub read_fields-returns-clause-ends : goal.read_fields-returns-clause-ends
read_fields-returns-clause-ends t c e = omega arith
