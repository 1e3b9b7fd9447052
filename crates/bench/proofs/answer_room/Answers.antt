-- `bench::answer_room` meets its contract.
-- Assumes nothing.
use Rattle.lines.proofs.RoomLaws.{array_size}
use Rattle.bench.proofs.answer_room.Goals as goal

pub returns : goal.returns
returns c = array_size 3187135 0
