-- `printing::line::put_refused` meets its contract.
-- Assumes nothing.
use Rattle.lines.proofs.RoomLaws.{joined}
use Rattle.printing.proofs.PieceLaws.{refused_line_pieces}
use Rattle.printing.proofs.line.put_refused.Goals as goal

pub returns : goal.returns
returns c =
    rw (← refused_line_pieces _ _)
    (joined (joined (joined c.put_text-end.ensures c.put_number-end.ensures.stands) c.put_text-end-2.ensures) c.put_number.ensures.stands)
