-- `memory::programming::store_pages`: the pages so far hold their bytes, and what is held is a page.
-- Assumes nothing.
use Rattle.std.proofs.Common.{drop}
use Rattle.memory.proofs.PagesLaws.{Stored}
use Rattle.memory.proofs.programming.store_pages.Given as goal

abbrev pub invariant-loop-n : goal.invariant-loop-n
invariant-loop-n l = Stored l.first.0 l.count (drop l.from l.bytes) l.fn.flash l.flash l.n
