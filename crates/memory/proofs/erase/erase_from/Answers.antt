-- `memory::erase::erase_from` meets its contract: pages that the flash has are erased, and no others.
-- Assumes nothing.
use mathlib.Core.Bool.{and-false}
use mathlib.Core.List.{[]}
use Rattle.std.proofs.Common.{◌≡◌, ℕ, ◌+◌, ◌*◌, ◌<◌, ◌∙◌, length, List, arith, sym}
use borrow.Author.Tests.{lt-leb}
use Rattle.memory.specs.Memory.{Page, page_size, most_flash}
use Rattle.memory.specs.Erase.{pages_erase}
use Rattle.memory.proofs.EraseLaws.{length_pages_erase, store_all_pages_erase}
use Rattle.memory.proofs.erase.erase_from.Goals as goal
use Rattle.memory.proofs.erase.erase_from.Goals.{then-flash-gt-MOST_FLASH-via-then-flash-gt-MOST_FLASH}
use Rattle.memory.proofs.erase.erase_from.Goals.{then-flash-gt-MOST_FLASH-via-else-flash-gt-MOST_FLASH+then-pages-before}
use Rattle.memory.proofs.erase.erase_from.Goals.{then-flash-gt-MOST_FLASH-via-else-flash-gt-MOST_FLASH+else-pages-before+then-pages-before-2}

module _ (p : Page) (n : ℕ) (m : List ℕ) where
  too_long : most_flash < length m → pages_erase p n m ≡ []
  unfolding pages_erase
  too_long h = rw (lt-leb (length m) most_flash h, and-false)

  no_pages : length m < page_size * (p.0 + n) → pages_erase p n m ≡ []
  unfolding pages_erase
  no_pages h = rw (lt-leb (page_size * (p.0 + n)) (length m) h)

-- one of the tests says no
none : (c : goal.Joined-then-flash-gt-MOST_FLASH) → pages_erase c.args.first c.args.count c.args.flash.now ≡ []
none c =
    elim c.then-flash-gt-MOST_FLASH.branch [
      | then-flash-gt-MOST_FLASH-via-then-flash-gt-MOST_FLASH w ↦ too_long _ _ _ (omega arith)
      | then-flash-gt-MOST_FLASH-via-else-flash-gt-MOST_FLASH+then-pages-before w ↦ no_pages _ _ _ (omega arith)
      | then-flash-gt-MOST_FLASH-via-else-flash-gt-MOST_FLASH+else-pages-before+then-pages-before-2 w ↦ no_pages _ _ _ (omega arith)
    ]

pub returns-then-flash-gt-MOST_FLASH-clause-value : goal.returns-then-flash-gt-MOST_FLASH-clause-value
returns-then-flash-gt-MOST_FLASH-clause-value c = rw (none c)

pub returns-then-flash-gt-MOST_FLASH-clause-flash_after : goal.returns-then-flash-gt-MOST_FLASH-clause-flash_after
returns-then-flash-gt-MOST_FLASH-clause-flash_after c = rw (none c)

pub returns-clause-value : goal.returns-clause-value
returns-clause-value c = sym (length_pages_erase _ _ _ (omega arith) (omega arith))

pub returns-clause-flash_after : goal.returns-clause-flash_after
returns-clause-flash_after c = c.erase_pages.ensures ∙ sym (store_all_pages_erase _ _ _ (omega arith) (omega arith))
