-- `printing::line::put_count` meets its contract.
-- Assumes nothing.
use Rattle.lines.proofs.RoomLaws.{joined}
use Rattle.printing.proofs.line.put_count.Goals as goal

pub returns : goal.returns
returns c = joined c.put_text-end.ensures c.put_number.ensures.stands
