-- `replies::reply::say_address` meets its contract.
-- Assumes nothing.
use Rattle.std.proofs.Common.{arith}
use Rattle.lines.proofs.RoomLaws.{put_fits, put_there}
use Rattle.plug.proofs.AnswerLaws.{address_bytes}
use Rattle.replies.proofs.ReplyLaws.{says, address_put}
use Rattle.replies.proofs.reply.say_address.Goals as goal

pub unwrap-end-requires : goal.unwrap-end-requires
unwrap-end-requires c =
    let digits = address_bytes c.args.address.0 _ (omega arith) c.to_be_bytes.ensures in
    put_fits _ _ _ _ (rw digits at c.hex_text.ensures.value) (omega arith)

pub returns : goal.returns
returns c =
    let hex = c.hex_text.ensures in
    let digits = address_bytes c.args.address.0 _ (omega arith) c.to_be_bytes.ensures in
    says _ _ _ _
    (address_put c.args.address.0 _ _ _
    (put_there _ _ _ _ _ _ (rw digits at hex.value) (rw digits at hex.room_after) c.unwrap-end.ensures (omega arith)) c.lay.ensures.memory_after)
    c.say.ensures
