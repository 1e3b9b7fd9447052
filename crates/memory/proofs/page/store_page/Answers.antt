-- `memory::page::store_page` meets its contract: the bytes laid over the page are the page stored with them.
-- Assumes nothing.
use mathlib.Core.Bool.{and-false}
use mathlib.Core.List.{[]}
use Rattle.std.proofs.Common.{◌≡◌, ℕ, ◌+◌, ◌*◌, ◌≤◌, ◌<◌, ◌∙◌, length, List, arith, sym}
use borrow.Author.Tests.{le-leb, lt-leb}
use Rattle.words.specs.Words.{laid}
use Rattle.memory.specs.Memory.{Page, page_size}
use Rattle.memory.specs.Pages.{store_all, page_store}
use Rattle.memory.proofs.PagesLaws.{length_page_store, store_all_page_store}
use Rattle.memory.proofs.page.store_page.Goals as goal
use Rattle.memory.proofs.page.store_page.Goals.{then-at-gt-PAGE_SIZE-via-then-at-gt-PAGE_SIZE, then-at-gt-PAGE_SIZE-via-else-at-gt-PAGE_SIZE+then-at-bytes}
use Rattle.memory.proofs.page.store_page.Goals.{then-at-gt-PAGE_SIZE-via-else-at-gt-PAGE_SIZE+else-at-bytes+then-flash-first}

module _ (p : Page) (at : ℕ) (d m : List ℕ) where
  past_page : page_size < at + length d → page_store p at d m ≡ []
  unfolding page_store
  past_page h = rw (lt-leb (at + length d) page_size h)

  no_page : length m < page_size * p.0 + page_size → page_store p at d m ≡ []
  unfolding page_store
  no_page h = rw (lt-leb (page_size * p.0 + page_size) (length m) h, and-false)

  stored : (m' : List ℕ) (place : ℕ) → at + length d ≤ page_size → page_size * p.0 + page_size ≤ length m → place ≡ page_size * p.0 + at
      → m' ≡ laid place d m → m' ≡ store_all (page_store p at d m) m
  unfolding laid
  stored m' place h k e q =
      let w = le-leb (page_size * p.0 + at + length d) (length m) (omega arith) in
      rw (store_all_page_store p at d m h k) (q ∙ rw (e, w))

-- one of the tests says no
none : (c : goal.Joined-then-at-gt-PAGE_SIZE) → page_store c.args.page c.args.at c.args.bytes.now c.args.flash.now ≡ []
none c =
    elim c.then-at-gt-PAGE_SIZE.branch [
      | then-at-gt-PAGE_SIZE-via-then-at-gt-PAGE_SIZE w ↦ past_page _ _ _ _ (omega arith)
      | then-at-gt-PAGE_SIZE-via-else-at-gt-PAGE_SIZE+then-at-bytes w ↦ past_page _ _ _ _ (omega arith)
      | then-at-gt-PAGE_SIZE-via-else-at-gt-PAGE_SIZE+else-at-bytes+then-flash-first w ↦ no_page _ _ _ _ (omega arith)
    ]

pub returns-then-at-gt-PAGE_SIZE-clause-value : goal.returns-then-at-gt-PAGE_SIZE-clause-value
returns-then-at-gt-PAGE_SIZE-clause-value c = rw (none c)

pub returns-then-at-gt-PAGE_SIZE-clause-flash_after : goal.returns-then-at-gt-PAGE_SIZE-clause-flash_after
returns-then-at-gt-PAGE_SIZE-clause-flash_after c = rw (none c)

pub returns-clause-value : goal.returns-clause-value
returns-clause-value c = sym (length_page_store _ _ _ _ (omega arith) (omega arith))

pub returns-clause-flash_after : goal.returns-clause-flash_after
returns-clause-flash_after c = stored _ _ _ _ _ _ (omega arith) (omega arith) (omega arith) c.lay.ensures.memory_after
