-- What the full chip erase of this board stores: its 512 pages, and then all its flash is FFh.
-- Assumes nothing.
use mathlib.Core.Path.{◌≡◌, sym, ◌∙◌}
use mathlib.Core.List.{List}
use Prim.Native.Nat.{ℕ, ◌+◌, ◌*◌, ◌≤◌}
use native.Mathlib.Omega.{arith}
use lib.ListN.{length, replicate, length-replicate}
use Rattle.words.proofs.WordsLaws.{overlay_whole}
use Rattle.memory.specs.Memory.{page, page_size, most_flash}
use Rattle.memory.specs.Pages.{store_all}
use Rattle.memory.specs.Erase.{pages_erase}
use Rattle.memory.proofs.EraseLaws.{length_pages_erase, store_all_pages_erase}
use Rattle.plug.specs.Commands.{flash_size, flash_pages}
use Rattle.plug.specs.Step.{blank_flash}

module _ (f : List ℕ) (h : length f ≡ flash_size) where
  all_pages : page_size * (0 + flash_pages) ≤ length f
  all_pages = omega arith

  not_long : length f ≤ most_flash
  not_long = omega arith

  pub length_chip : length (pages_erase (page 0) flash_pages f) ≡ flash_pages
  length_chip = length_pages_erase (page 0) flash_pages f all_pages not_long

  pub store_all_chip : store_all (pages_erase (page 0) flash_pages f) f ≡ blank_flash
  unfolding blank_flash
  store_all_chip =
      store_all_pages_erase (page 0) flash_pages f all_pages not_long
      ∙ overlay_whole (replicate flash_size 0xFF) f (length-replicate {A = ℕ} flash_size 0xFF ∙ sym h)
