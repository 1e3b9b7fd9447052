-- `job::walk::next_request` meets its contract, by the laws of the walk's turns.
-- Assumes nothing.
use Rattle.std.proofs.Common.{arith, refl, ◌∙◌}
use Rattle.job.proofs.FieldLaws.{end_beyond, went_beyond, within}
use Rattle.job.proofs.WalkLaws.{turn_none, turn_request, turn_group, turn_other}
use Rattle.job.proofs.walk.next_request.Goals as goal

pub loop-at-init : goal.loop-at-init
loop-at-init c = refl

pub returns-in_err-size : goal.returns-in_err-size
returns-in_err-size c = c.from_residual.ensures ∙ turn_none _ _ _ c.loop-at.invariant (went_beyond _ _ _ _ c.reach_of.ensures c.in_err-size.was)

pub returns-then-tag-eq-REQUEST : goal.returns-then-tag-eq-REQUEST
returns-then-tag-eq-REQUEST c =
    turn_request _ _ _ c.loop-at.invariant _ (within _ _ _ _ _ c.reach_of.ensures c.in_ok-size.was) c.if-tag-eq-REQUEST.true

pub loop-at-preserved-then-tag-eq-GROUP : goal.loop-at-preserved-then-tag-eq-GROUP
loop-at-preserved-then-tag-eq-GROUP c =
    turn_group _ _ _ c.loop-at.invariant _ (within _ _ _ _ _ c.reach_of.ensures c.in_ok-size.was) c.if-tag-eq-GROUP.true

pub overflow_add-at : goal.overflow_add-at
overflow_add-at c = let i = within _ _ _ _ _ c.reach_of.ensures c.in_ok-size.was in omega (arith, i.value_fits)

pub loop-at-preserved : goal.loop-at-preserved
loop-at-preserved c =
    turn_other _ _ _ c.loop-at.invariant _ (within _ _ _ _ _ c.reach_of.ensures c.in_ok-size.was) c.if-tag-eq-REQUEST.false
    c.if-tag-eq-GROUP.false

pub returns : goal.returns
returns c = turn_none _ _ _ c.loop-at.invariant (end_beyond c.args.file.now _ _ c.loop-at-test.false)
