-- The total with the bytes from the index on comes to the number with all bytes, modulo 256.
use Rattle.std.proofs.Common.{◌≡◌, ◌+◌, ◌%◌, drop}
use Rattle.record.specs.Record.{sum}
use Rattle.recordwriter.proofs.writer.added.Given as goal

abbrev pub invariant-loop-byte : goal.invariant-loop-byte
invariant-loop-byte l = (l.total + sum (drop l.byte-index l.bytes)) % 256 ≡ (l.number + sum l.bytes) % 256
