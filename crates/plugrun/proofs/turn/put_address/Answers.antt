-- `plugrun::turn::put_address` meets its contract: one piece after the other.
-- Assumes nothing.
use native.Mathlib.Omega.{arith}
use Rattle.lines.proofs.RoomLaws.{joined, put_fits, put_there}
use Rattle.plug.proofs.AnswerLaws.{address_bytes}
use Rattle.plugrun.proofs.turn.put_address.Goals as goal

pub unwrap-end-requires : goal.unwrap-end-requires
unwrap-end-requires c =
    let bytes = address_bytes c.args.address.0 _ (omega arith) c.to_be_bytes.ensures in
    put_fits _ _ _ _ (rw bytes at c.hex_text.ensures.value) (omega arith)

pub unwrap-requires : goal.unwrap-requires
unwrap-requires c =
    let hex = c.hex_text.ensures in
    let bytes = address_bytes c.args.address.0 _ (omega arith) c.to_be_bytes.ensures in
    let digits = put_there _ _ _ _ _ _ (rw bytes at hex.value) (rw bytes at hex.room_after) c.unwrap-end.ensures (omega arith) in
    put_fits _ _ _ _ c.plain_text.ensures.value (omega (arith, digits.ends, digits.same_size))

pub returns : goal.returns
returns c =
    let hex = c.hex_text.ensures in
    let bytes = address_bytes c.args.address.0 _ (omega arith) c.to_be_bytes.ensures in
    let feed = c.plain_text.ensures in
    let digits = put_there _ _ _ _ _ _ (rw bytes at hex.value) (rw bytes at hex.room_after) c.unwrap-end.ensures (omega arith) in
    joined digits (put_there _ _ _ _ _ _ feed.value feed.room_after c.unwrap.ensures (omega (arith, digits.ends, digits.same_size)))
