-- `printing::line::put_status` meets its contract.
-- Assumes nothing.
use Rattle.std.proofs.Common.{[], ◌∷◌}
use Rattle.lines.specs.Text.{hex_bytes}
use Rattle.lines.proofs.RoomLaws.{put_fits, put_there}
use Rattle.printing.proofs.line.put_status.Goals as goal

pub unwrap-requires : goal.unwrap-requires
unwrap-requires c = put_fits _ _ _ _ c.hex_text.ensures.value c.requires

pub returns : goal.returns
returns c =
    put_there _ _ (hex_bytes (c.args.status ∷ [])) _ _ _ c.hex_text.ensures.value c.hex_text.ensures.room_after c.unwrap.ensures c.requires
