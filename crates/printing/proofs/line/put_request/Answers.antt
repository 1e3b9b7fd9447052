-- `printing::line::put_request` meets its contract: one piece after the other.
-- Assumes nothing.
use Rattle.lines.proofs.RoomLaws.{joined}
use Rattle.printing.proofs.PieceLaws.{request_line_pieces}
use Rattle.printing.proofs.line.put_request.Goals as goal

pub returns : goal.returns
returns c =
    let three = joined (joined c.put_number-end.ensures.stands c.put_word-end.ensures.stands) c.put_number-end-2.ensures.stands in
    let six = joined (joined (joined three c.put_status-end.ensures) c.put_byte-end.ensures) c.put_number-end-3.ensures.stands in
    rw (← request_line_pieces _ _ _ _ _ _) (joined (joined six c.put_reply-end.ensures) c.put_byte.ensures)
