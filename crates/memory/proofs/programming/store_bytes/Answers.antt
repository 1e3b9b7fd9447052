-- `memory::programming::store_bytes` meets its contract: the pages that the bytes meet are the stores.
-- Assumes nothing.
use Rattle.std.proofs.Common.{◌≡◌, length, false, ℕ, List, sym, ◌∙◌}
use Rattle.memory.specs.Memory.{FlashAddress}
use Rattle.memory.specs.Pages.{store_all}
use Rattle.memory.specs.Program.{storable, bytes_stores}
use Rattle.memory.proofs.ProgramLaws.{is_storable, length_bytes_stores, store_all_bytes_stores}
use Rattle.memory.proofs.programming.store_bytes.Goals as goal

module _ (a : FlashAddress) (d m : List ℕ) where
  none_counted : false ≡ storable a.0 d m → 0 ≡ length (bytes_stores a d m)
  unfolding bytes_stores
  none_counted t = rw (← t)

  none_stored : false ≡ storable a.0 d m → m ≡ store_all (bytes_stores a d m) m
  unfolding bytes_stores
  none_stored t = rw (← t)

pub returns-then-not-is_storable-clause-value : goal.returns-then-not-is_storable-clause-value
returns-then-not-is_storable-clause-value c = none_counted _ _ _ c.if-not-is_storable.ensures

pub returns-then-not-is_storable-clause-flash_after : goal.returns-then-not-is_storable-clause-flash_after
returns-then-not-is_storable-clause-flash_after c = none_stored _ _ _ c.if-not-is_storable.ensures

pub returns-clause-value : goal.returns-clause-value
returns-clause-value c =
    let s = is_storable _ _ _ (sym c.if-not-is_storable.ensures) in
    c.program_pages.ensures.value ∙ sym (length_bytes_stores _ _ _ s.any s.inside s.whole s.short)

pub returns-clause-flash_after : goal.returns-clause-flash_after
returns-clause-flash_after c =
    let s = is_storable _ _ _ (sym c.if-not-is_storable.ensures) in
    c.program_pages.ensures.flash_after ∙ sym (store_all_bytes_stores _ _ _ s.any s.inside s.whole s.short)
