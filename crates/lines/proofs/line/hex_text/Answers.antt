-- `lines::line::hex_text` meets its contract.
-- Assumes nothing.
use Rattle.std.proofs.Common.{◌∙◌, arith}
use Rattle.lines.proofs.RoomLaws.{written, not_written}
use Rattle.lines.proofs.TextLaws.{length_hex_bytes}
use Rattle.lines.proofs.line.hex_text.Goals as goal

pub returns-in_err-fits-clause-value : goal.returns-in_err-fits-clause-value
returns-in_err-fits-clause-value c =
    (not_written _ _ _ _ _ c.from_residual.ensures.0 c.in_err-fits.ensures (length_hex_bytes c.args.bytes.now ∙ omega arith)).0

pub returns-in_err-fits-clause-room_after : goal.returns-in_err-fits-clause-room_after
returns-in_err-fits-clause-room_after c =
    (not_written _ _ _ _ _ c.from_residual.ensures.0 c.in_err-fits.ensures (length_hex_bytes c.args.bytes.now ∙ omega arith)).1

pub returns-clause-value : goal.returns-clause-value
returns-clause-value c = (written c.put_hexes.ensures).0

pub returns-clause-room_after : goal.returns-clause-room_after
returns-clause-room_after c = (written c.put_hexes.ensures).1
