-- The pairs that are left, with those that are read, come to what all come to, in digits, bytes and sum.
use Rattle.recordreader.proofs.PairsLaws.{Going}
use Rattle.recordreader.proofs.pairs.read_pairs.Given as goal

abbrev pub invariant-loop-i : goal.invariant-loop-i
invariant-loop-i l = Going l.characters l.initial.held l.held l.i l.total
