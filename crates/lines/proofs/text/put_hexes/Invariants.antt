-- The digits of the bytes so far stand in the room.
use Rattle.std.proofs.Common.{take}
use Rattle.lines.specs.Text.{hex_bytes}
use Rattle.lines.specs.Room.{Stands}
use Rattle.lines.proofs.text.put_hexes.Given as goal

abbrev pub invariant-loop-byte : goal.invariant-loop-byte
invariant-loop-byte l = Stands l.at (hex_bytes (take l.byte-index l.bytes)) l.initial.room l.place l.room
