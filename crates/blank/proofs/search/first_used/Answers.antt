-- `blank::search::first_used` meets its contract: what a page's search finds is the first find of the whole, and what it passes joins what
-- was passed before.
-- Assumes nothing.
use Rattle.std.proofs.Common.{sym, ap, arith}
use Rattle.blank.specs.Blank.{used_of}
use Rattle.blank.proofs.BlankLaws.{used_in_some, used_in_none}
use Rattle.blank.proofs.SearchLaws.{passed_more}
use Rattle.blank.proofs.search.first_used.Goals as goal

pub returns-in-Some : goal.returns-in-Some
returns-in-Some c =
    let found = c.in-Some.ensures in
    let passed = passed_more _ _ _ _ _ found.forward (omega arith) c.loop-from.invariant found.blank in
    sym (ap used_of (used_in_some _ _ _ _ passed.forward (omega arith) (omega arith) passed.blank found.used))

pub returns : goal.returns
returns c = sym (ap used_of (used_in_none _ _ _ (λ i h k. c.loop-from.invariant.blank i h (omega arith))))
