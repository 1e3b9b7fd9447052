-- `replies::reply::say_value` meets its contract.
-- Assumes nothing.
use Rattle.std.proofs.Common.{arith}
use Rattle.lines.proofs.RoomLaws.{put_fits, put_there}
use Rattle.replies.proofs.ReplyLaws.{says, value_put}
use Rattle.replies.proofs.reply.say_value.Goals as goal

pub unwrap-end-requires : goal.unwrap-end-requires
unwrap-end-requires c = put_fits _ _ _ _ c.hex_text.ensures.value (omega arith)

pub returns : goal.returns
returns c =
    let hex = c.hex_text.ensures in
    says _ _ _ _
    (value_put c.args.value _ _ _ (put_there _ _ _ _ _ _ hex.value hex.room_after c.unwrap-end.ensures (omega arith)) c.lay.ensures.memory_after)
    c.say.ensures
