-- `printing::text::put_text` meets its contract.
-- Assumes nothing.
use Rattle.lines.proofs.RoomLaws.{laid_stands}
use Rattle.printing.proofs.text.put_text.Goals as goal

pub returns : goal.returns
returns c = laid_stands _ _ _ _ c.requires c.lay.ensures.memory_after
