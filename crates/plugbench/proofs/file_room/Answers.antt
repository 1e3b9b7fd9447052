-- `plugbench::file_room` meets its contract: one byte more than a file may have.
-- Assumes nothing.
use Rattle.lines.proofs.RoomLaws.{array_size}
use Rattle.plugbench.proofs.file_room.Goals as goal

pub returns : goal.returns
returns c = array_size 1048577 0
