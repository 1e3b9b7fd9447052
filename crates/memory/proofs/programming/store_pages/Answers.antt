-- `memory::programming::store_pages` meets its contract: a further page stored is a further page of the bytes laid over the flash.
-- Assumes nothing.
use Rattle.std.proofs.Common.{◌≡◌, ◌+◌, ◌*◌, ◌≤◌, length, take, drop, ℕ, List, sym, ap, arith, length-drop}
use Rattle.std.proofs.Math.Seq.{drop-drop}
use Rattle.memory.specs.Memory.{page_size}
use Rattle.memory.specs.Pages.{page_of}
use Rattle.memory.proofs.PagesLaws.{stored_more}
use Rattle.memory.proofs.programming.store_pages.Goals as goal

-- the next page's bytes
next_page : (from n : ℕ) (d : List ℕ) → take page_size (drop (from + page_size * n) d) ≡ page_of n (drop from d)
next_page from n d = ap (take page_size) (sym (drop-drop (page_size * n) from d))

enough : (from count : ℕ) (d : List ℕ) → from + page_size * count ≤ length d → page_size * count ≤ length (drop from d)
enough from count d h = simp length-drop (omega arith)

pub loop-n-preserved : goal.loop-n-preserved
loop-n-preserved c =
    let room = enough c.args.from c.args.count c.args.bytes.now (omega arith) in
    let its = next_page c.args.from c.loop-n.n c.args.bytes.now in
    stored_more _ _ _ _ _ _ c.loop-n.invariant c.loop-n-test.true (omega arith) room _ _ c.page_after.ensures its _ c.store_whole.ensures
