-- What was handed on is the first so many pieces in a row; those that are left are the texts of the records that are left, on the board as
-- it is. The measure is the bytes left.
use Rattle.std.proofs.Common.{◌≡◌, length, ◌-◌, take}
use Rattle.std.specs.Io.KnownBytes.{Appends}
use Rattle.plugrun.specs.Written.{pieces, in_a_row}
use Rattle.plugrun.specs.Turn.{most_text}
use Rattle.plugrun.proofs.PiecesLaws.{SoFar}
use Rattle.plugbench.proofs.write_pieces.Given as goal

abbrev pub invariant-loop-turn : goal.invariant-loop-turn
invariant-loop-turn g l = SoFar l.file l.number l.progress l.flash
    × (length l.room ≡ most_text)
    × Appends (g.W.Write.contents l.fn.output) (g.W.Write.contents l.output) (in_a_row (take l.number (pieces l.file)))

abbrev pub decreases-loop-turn : goal.decreases-loop-turn
decreases-loop-turn g l = length l.file - l.progress.at
