-- `lines::text::put_hexes` meets its contract: the digits of one byte more.
-- Assumes nothing.
use Rattle.std.proofs.Common.{arith}
use Rattle.lines.proofs.RoomLaws.{joined}
use Rattle.lines.proofs.TextLaws.{length_hexes, hexes_more}
use Rattle.lines.proofs.text.put_hexes.Goals as goal

pub put_hex-place-requires : goal.put_hex-place-requires
put_hex-place-requires c = omega (arith, length_hexes c.loop-byte.byte-index c.args.bytes.now (omega arith))

pub loop-byte-preserved : goal.loop-byte-preserved
loop-byte-preserved c = rw (hexes_more _ _ c.loop-byte-test.true) (joined c.loop-byte.invariant c.put_hex-place.ensures)
