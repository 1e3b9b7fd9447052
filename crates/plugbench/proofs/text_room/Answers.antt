-- `plugbench::text_room` meets its contract.
-- Assumes nothing.
use Rattle.lines.proofs.RoomLaws.{array_size}
use Rattle.plugbench.proofs.text_room.Goals as goal

pub returns : goal.returns
returns c = array_size 159810 0
