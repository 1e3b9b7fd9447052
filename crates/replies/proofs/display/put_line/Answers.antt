-- `replies::display::put_line` meets its contract: a line is put in four pieces, one after another.
-- Assumes nothing.
use Rattle.std.proofs.Common.{arith}
use Rattle.plug.proofs.AnswerLaws.{address_bytes}
use Rattle.plug.specs.Answers.{hex_address}
use Rattle.lines.proofs.RoomLaws.{put_fits, put_there}
use Rattle.replies.proofs.DisplayLaws.{bytes_fit, line_put}
use Rattle.replies.proofs.display.put_line.Goals as goal

pub unwrap-equals-requires : goal.unwrap-equals-requires
unwrap-equals-requires c =
    let digits = address_bytes c.args.from _ (omega (arith, c.requires.from_lt_to)) c.to_be_bytes.ensures in
    put_fits _ _ _ _ (rw digits at c.hex_text.ensures.value) (omega (arith, c.requires.from_in_bounds))

pub unwrap-end-requires : goal.unwrap-end-requires
unwrap-end-requires c =
    let pre = c.requires in
    let hex = c.hex_text.ensures in
    let digits = address_bytes c.args.from _ (omega (arith, c.requires.from_lt_to)) c.to_be_bytes.ensures in
    let address = put_there _ _ (hex_address c.args.from) _ _ _ (rw digits at hex.value) (rw digits at hex.room_after) c.unwrap-equals.ensures
    (omega (arith, pre.from_in_bounds)) in
    put_fits _ _ _ _ c.hex_text-2.ensures.value
    (bytes_fit _ _ _ _ _ _ _ _ pre.from_lt_to.0 pre.from_lt_to.1 pre.from_in_bounds address c.lay.ensures.memory_after)

pub overflow_add-equals : goal.overflow_add-equals
overflow_add-equals c =
    let hex = c.hex_text.ensures in
    let digits = address_bytes c.args.from _ (omega (arith, c.requires.from_lt_to)) c.to_be_bytes.ensures in
    let address = put_there _ _ (hex_address c.args.from) _ _ _ (rw digits at hex.value) (rw digits at hex.room_after) c.unwrap-equals.ensures
    (omega (arith, c.requires.from_in_bounds)) in
    omega (arith, address.ends, c.requires.from_in_bounds)

pub overflow_add-result : goal.overflow_add-result
overflow_add-result c =
    let pre = c.requires in
    let hex = c.hex_text.ensures in
    let digits = address_bytes c.args.from _ (omega (arith, c.requires.from_lt_to)) c.to_be_bytes.ensures in
    let more = c.hex_text-2.ensures in
    let address = put_there _ _ (hex_address c.args.from) _ _ _ (rw digits at hex.value) (rw digits at hex.room_after) c.unwrap-equals.ensures
    (omega (arith, pre.from_in_bounds)) in
    let fit = bytes_fit _ _ _ _ _ _ _ _ pre.from_lt_to.0 pre.from_lt_to.1 pre.from_in_bounds address c.lay.ensures.memory_after in
    let bytes = put_there _ _ _ _ _ _ more.value more.room_after c.unwrap-end.ensures fit in
    omega (arith, address.ends, bytes.ends, bytes.within, pre.from_in_bounds)

pub returns : goal.returns
returns c =
    let pre = c.requires in
    let hex = c.hex_text.ensures in
    let digits = address_bytes c.args.from _ (omega (arith, c.requires.from_lt_to)) c.to_be_bytes.ensures in
    let more = c.hex_text-2.ensures in
    let address = put_there _ _ (hex_address c.args.from) _ _ _ (rw digits at hex.value) (rw digits at hex.room_after) c.unwrap-equals.ensures
    (omega (arith, pre.from_in_bounds)) in
    let fit = bytes_fit _ _ _ _ _ _ _ _ pre.from_lt_to.0 pre.from_lt_to.1 pre.from_in_bounds address c.lay.ensures.memory_after in
    line_put _ _ _ _ _ _ _ _ pre.from_lt_to.0 pre.from_lt_to.1 pre.from_in_bounds address c.lay.ensures.memory_after _ _ _
    (put_there _ _ _ _ _ _ more.value more.room_after c.unwrap-end.ensures fit)
    c.lay-2.ensures.memory_after
