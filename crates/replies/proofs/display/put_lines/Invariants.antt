-- The invariant is `Pieces`: what stands in the room and the lines of the pieces that are left are the whole display.
use Rattle.std.proofs.Common.{length}
use Rattle.replies.proofs.DisplayLaws.{Pieces}
use Rattle.replies.proofs.display.put_lines.Given as goal

abbrev pub invariant-loop-n : goal.invariant-loop-n
invariant-loop-n l =
    Pieces l.first l.past l.flash l.initial.room l.place l.room l.n-iterator.count l.n-iterator.iter.size (length l.n-iterator.iter.rest.now)
