-- `replies::display::put_lines` meets its contract.
-- Assumes nothing.
use Rattle.std.proofs.Common.{◌-◌, ◌∙◌, ap, arith, drop, length, length-append, length-drop, length-take-le}
use Rattle.replies.proofs.DisplayLaws.{no_piece, piece_fits, piece_more, no_piece_left}
use Rattle.replies.proofs.display.put_lines.Goals as goal

pub loop-n-init : goal.loop-n-init
loop-n-init c =
    let a = c.args in
    let pre = c.requires in
    let part = length-take-le (a.past - a.first) (drop a.first a.flash.now) (simp length-drop (omega (arith, pre.first_lt_past))) in
    rw c.into_iter-n-iterator.ensures.into_iter_gives
    (rw c.enumerate-n-items.ensures.source
    (no_piece _ _ _ _ _ _ _ c.enumerate-n-items.ensures.count c.chunks.ensures.size (ap length c.chunks.ensures.rest ∙ part)))

pub put_line-place-requires-clause-from_in_bounds : goal.put_line-place-requires-clause-from_in_bounds
put_line-place-requires-clause-from_in_bounds c =
    let pre = c.requires in
    let steps = c.in-Some.ensures.steps in
    piece_fits c.loop-n.invariant _ _ steps.1 steps.0.1.1 steps.0.1.2 pre.first_lt_past.1 pre.flash_in_bounds

pub loop-n-preserved : goal.loop-n-preserved
loop-n-preserved c =
    let steps = c.in-Some.ensures.steps in
    piece_more c.loop-n.invariant _ _ steps.1 steps.0.1.1 steps.0.1.2 _ _ _ _ _ steps.2 steps.0.0
    (ap length steps.0.1.0 ∙ length-append c.in-Some.line.now _) c.put_line-place.ensures

pub returns : goal.returns
returns c = no_piece_left c.loop-n.invariant (omega arith) c.in-None.ensures.steps.0.1.0
