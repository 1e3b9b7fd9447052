-- `memory::programming::store_part` meets its contract: the page stored with the bytes is the flash with the bytes laid over it.
-- Assumes nothing.
use Rattle.std.proofs.Common.{◌≡◌, ◌+◌, ◌*◌, ◌%◌, ◌≤◌, ◌<◌, length, ℕ, arith, sym, ◌∙◌}
use borrow.Author.Tests.{eqb-false}
use Rattle.memory.specs.Memory.{page_size}
use Rattle.memory.proofs.PagesLaws.{length_page_store, store_all_page_store}
use Rattle.memory.proofs.programming.store_part.Goals as goal

-- a page in which some bytes stand is all in a flash of whole pages
there : (p at n m : ℕ) → 0 < n → at + n ≤ page_size → page_size * p + (at + n) ≤ m → m % page_size ≡ 0 → page_size * p + page_size ≤ m
there p at n m any within fits whole = omega arith

pub returns-clause-value : goal.returns-clause-value
returns-clause-value c =
    let any : 0 < length c.args.bytes.now = omega (arith, eqb-false (length c.args.bytes.now) 0 (sym c.if-is_empty.ensures)) in
    let all = there c.args.page.0 c.args.at (length c.args.bytes.now) (length c.args.flash.now) any (omega arith) (omega arith) (omega arith) in
    let one = c.store_page.ensures.value ∙ length_page_store _ _ _ _ (omega arith) all in
    omega arith

pub returns-clause-flash_after : goal.returns-clause-flash_after
returns-clause-flash_after c =
    let any : 0 < length c.args.bytes.now = omega (arith, eqb-false (length c.args.bytes.now) 0 (sym c.if-is_empty.ensures)) in
    let all = there c.args.page.0 c.args.at (length c.args.bytes.now) (length c.args.flash.now) any (omega arith) (omega arith) (omega arith) in
    c.store_page.ensures.flash_after ∙ store_all_page_store _ _ _ _ (omega arith) all
