-- `run::run::run_all` meets its contract, request by request.
-- Assumes nothing.
use Rattle.std.proofs.Common.{refl, sym, arith}
use Rattle.run.proofs.RunLaws.{at_start, placed, room_left, number_left, less_left, further, finished}
use Rattle.run.proofs.run.run_all.Goals as goal

pub loop-span-init : goal.loop-span-init
loop-span-init c = at_start _ _ _ _ _ _ _ c.requires c.power_up.ensures c.delivered.ensures refl refl

pub run_one-progress-requires-clause-placed : goal.run_one-progress-requires-clause-placed
run_one-progress-requires-clause-placed c = placed _ _ _ _ _ _ _ _ _ _ _ c.loop-span.invariant _ (sym c.in-Some.ensures)

pub run_one-progress-requires-clause-number_le_most_file : goal.run_one-progress-requires-clause-number_le_most_file
run_one-progress-requires-clause-number_le_most_file c = (
  number_left _ _ _ _ _ _ _ _ _ _ _ c.loop-span.invariant _ (sym c.in-Some.ensures),
  room_left _ _ _ _ _ _ _ _ _ _ _ c.loop-span.invariant _ (sym c.in-Some.ensures),
)

pub overflow_add-cursor : goal.overflow_add-cursor
overflow_add-cursor c = omega (arith, (placed _ _ _ _ _ _ _ _ _ _ _ c.loop-span.invariant _ (sym c.in-Some.ensures)).in_file)

pub loop-span-smaller : goal.loop-span-smaller
loop-span-smaller c = less_left _ _ _ _ _ _ _ _ _ _ _ c.loop-span.invariant _ (sym c.in-Some.ensures)

pub loop-span-preserved : goal.loop-span-preserved
loop-span-preserved c =
    further _ _ _ _ _ _ _ _ _ _ _ c.loop-span.invariant _ (sym c.in-Some.ensures) _ _ _ _ _ c.run_one-progress.auto.reply
    c.run_one-progress.ensures

pub returns : goal.returns
returns c = finished _ _ _ _ _ _ _ _ _ _ _ c.loop-span.invariant (sym c.in_default.ensures)
