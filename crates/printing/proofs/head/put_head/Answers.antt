-- `printing::head::put_head` meets its contract: one piece after the other.
-- Assumes nothing.
use Rattle.lines.proofs.RoomLaws.{joined}
use Rattle.printing.proofs.PieceLaws.{head_line_pieces}
use Rattle.printing.proofs.head.put_head.Goals as goal

pub returns : goal.returns
returns c =
    rw (← head_line_pieces _ _ _)
    (joined (joined c.put_number-end.ensures.stands c.put_word-end.ensures.stands) c.put_number.ensures.stands)
