-- `plugbench::write_pieces` meets its contract: each text that is handed on is the next piece, and after the last record all are handed on.
-- Assumes nothing.
use Rattle.std.proofs.Common.{ℕ, sym, subst, ◌∙◌, arith, length-take-le}
use Rattle.std.proofs.KnownBytes.{Appends-nil}
use Rattle.plugrun.proofs.PiecesLaws.{SoFar, first_within, first_piece, begun, further, same_room, size_within, is_piece, less_left, all_handed_on}
use Rattle.plugbench.proofs.HandedLaws.{handed, whole}
use Rattle.plugbench.proofs.write_pieces.Goals as goal

-- ---- the first piece

pub slice_bounds-room-end : goal.slice_bounds-room-end
slice_bounds-room-end g c =
    first_within c.args.file.now _ _ _ _ (omega (arith, c.text_room-room.ensures))
    (c.first_line.ensures.value, c.first_line.ensures.room_after) c.end_of-end.ensures

pub slice_bounds-write_piece-end : goal.slice_bounds-write_piece-end
slice_bounds-write_piece-end g c =
    sym
    (length-take-le _ _
    (first_within c.args.file.now _ _ _ _ (omega (arith, c.text_room-room.ensures))
    (c.first_line.ensures.value, c.first_line.ensures.room_after) c.end_of-end.ensures))

pub write_piece-requires : goal.write_piece-requires
write_piece-requires g c =
    first_piece _ _ _ _ _ (omega (arith, c.text_room-room.ensures)) (c.first_line.ensures.value, c.first_line.ensures.room_after) c.end_of-end.ensures

pub loop-turn-init : goal.loop-turn-init
loop-turn-init g c =
    let file = c.args.file.now in
    let number = c.in_ok-number.ensures.next in (
      subst (λ (k : ℕ). SoFar file k c.start-progress.result c.blank_flash-flash.result) (sym number)
          (begun _ _ _ c.start-progress.ensures c.blank_flash-flash.ensures),
      omega (arith, c.first_line.auto.room, c.text_room-room.ensures),
      handed file _ _ _ 0 _ _ (Appends-nil _)
          (first_piece _ _ _ _ _ (omega (arith, c.text_room-room.ensures)) (c.first_line.ensures.value, c.first_line.ensures.room_after) c.end_of-end.ensures)
          c.in_ok-number.ensures.bytes number,
    )

-- ---- a turn

pub slice_bounds-room-end-in-Some : goal.slice_bounds-room-end-in-Some
slice_bounds-room-end-in-Some g c =
    let i = c.loop-turn.invariant in
    size_within _ _ _ _ _ _ i.0 _ c.take_turn.ensures _ c.in-Some.is (omega (arith, i.1))

pub slice_bounds-write_piece-end-in-Some : goal.slice_bounds-write_piece-end-in-Some
slice_bounds-write_piece-end-in-Some g c =
    let i = c.loop-turn.invariant in
    sym (length-take-le _ _ (size_within _ _ _ _ _ _ i.0 _ c.take_turn.ensures _ c.in-Some.is (omega (arith, i.1))))

pub write_piece-requires-in-Some : goal.write_piece-requires-in-Some
write_piece-requires-in-Some g c = is_piece _ _ _ _ _ _ c.loop-turn.invariant.0 _ c.take_turn.ensures _ c.in-Some.is

pub loop-turn-smaller : goal.loop-turn-smaller
loop-turn-smaller g c = less_left _ _ _ _ _ _ c.loop-turn.invariant.0 _ c.take_turn.ensures _ c.in-Some.is

pub loop-turn-preserved : goal.loop-turn-preserved
loop-turn-preserved g c =
    let file = c.args.file.now in
    let i = c.loop-turn.invariant in
    let e = c.take_turn.ensures in
    let took = c.in-Some.is in
    let number = c.in_ok-number-2.ensures.next in (
      subst (λ (k : ℕ). SoFar file k c.in-Some.turn.progress c.take_turn.new.flash) (sym number) (further _ _ _ _ _ _ i.0 _ e _ took),
      same_room _ _ _ _ _ _ i.0 _ e _ took (omega (arith, i.1)) ∙ i.1,
      handed file _ _ _ _ _ _ i.2 (is_piece _ _ _ _ _ _ i.0 _ e _ took) c.in_ok-number-2.ensures.bytes number,
    )

-- ---- after the last

pub returns-clause-count : goal.returns-clause-count
returns-clause-count g c = all_handed_on _ _ _ _ _ _ c.loop-turn.invariant.0 _ c.take_turn.ensures c.in_default.is

pub returns-clause-bytes : goal.returns-clause-bytes
returns-clause-bytes g c =
    let i = c.loop-turn.invariant in
    whole c.args.file.now _ _ _ (all_handed_on _ _ _ _ _ _ i.0 _ c.take_turn.ensures c.in_default.is) i.2
