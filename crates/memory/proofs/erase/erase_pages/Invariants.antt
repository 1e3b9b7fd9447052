-- The loop of `memory::erase::erase_pages`: the pages so far are FFh.
use Rattle.std.proofs.Common.{◌*◌, replicate}
use Rattle.memory.specs.Memory.{page_size}
use Rattle.memory.proofs.PagesLaws.{Stored}
use Rattle.memory.proofs.erase.erase_pages.Given as goal

abbrev pub invariant-loop-n : goal.invariant-loop-n
invariant-loop-n l = Stored l.first.0 l.count (replicate (page_size * l.count) 0xFF) l.fn.flash l.flash l.n
