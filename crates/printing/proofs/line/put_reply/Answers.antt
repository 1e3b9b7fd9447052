-- `printing::line::put_reply` meets its contract: a dash for a reply of no bytes, else its digits.
-- Assumes nothing.
use Rattle.lines.proofs.RoomLaws.{put_fits, put_there}
use Rattle.printing.proofs.PieceLaws.{reply_text_some}
use Rattle.printing.proofs.line.put_reply.Goals as goal

pub unwrap-requires : goal.unwrap-requires
unwrap-requires c =
    put_fits _ _ _ _ c.hex_text.ensures.value (rw (reply_text_some c.args.reply.now c.if-is_empty.ensures) at c.requires)

pub returns-else-is_empty : goal.returns-else-is_empty
returns-else-is_empty c =
    let digits = reply_text_some c.args.reply.now c.if-is_empty.ensures in
    rw digits
    (put_there _ _ _ _ _ _ c.hex_text.ensures.value c.hex_text.ensures.room_after c.unwrap.ensures (rw digits at c.requires))
