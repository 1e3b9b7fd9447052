-- `bench::file_room` meets its contract: one byte more than a job may have.
-- Assumes nothing.
use Rattle.lines.proofs.RoomLaws.{array_size}
use Rattle.bench.proofs.file_room.Goals as goal

pub returns : goal.returns
returns c = array_size 16385 0
