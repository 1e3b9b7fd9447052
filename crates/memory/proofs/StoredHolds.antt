-- The statements of specs/Stored.antt hold: each operation by the laws of its stores, and by the test that it makes.
-- Assumes nothing.
use Rattle.std.specs.Prelude.{if◌then◌else◌}
use mathlib.Core.Path.{◌≡◌, refl, sym, ap, ◌∙◌, subst}
use mathlib.Core.Bool.{Bool, true, false, ◌&&◌, and-eq-true_iff}
use mathlib.Core.List.{List, []}
use Prim.Native.Nat.{ℕ, ◌+◌, ◌-◌, ◌*◌, ◌/◌, ◌≤◌}
use native.Mathlib.Omega.{arith}
use lib.Dec.{leb}
use lib.ListN.{length}
use borrow.Author.Tests.{eq-eqb, ne_eqb, leb-true}
use Rattle.words.proofs.WordsLaws.{overlay_programmed}
use Rattle.memory.specs.Memory.{flash_size, flash_pages, page_size, most_flash}
use Rattle.memory.specs.Pages.{Store, Rising, page_store, pages_met}
use Rattle.memory.specs.Program.{storable, bytes_stores}
use Rattle.memory.specs.Erase.{erasable, block_erase, chip_erase, pages_erase}
use Rattle.memory.specs.Stored.{FlashStored, BytesStored, Within, PageStored, Erasable, PagesErased, NotErased, RequestsStore}
use Rattle.memory.proofs.PagesLaws.{length_program_stores, rising_program_stores, length_page_store, rising_page_store, store_all_page_store}
use Rattle.memory.proofs.ProgramLaws.{fit, programmable_fit, unfit, flash_stores_fit, flash_stores_not, both_programmed}
use Rattle.memory.proofs.ProgramLaws.{is_storable, length_bytes_stores, rising_bytes_stores, bytes_stores_programmed}
use Rattle.memory.proofs.EraseLaws.{length_pages_erase, rising_pages_erase, pages_erase_programmed}

-- stores that are made where a test says so, and it does not
not_made : (t : Bool) (ss : List Store) → (t ≡ true → ⊥) → (if t then ss else []) ≡ []
not_made true ss h = absurd (h refl)
not_made false ss h = refl

met : (a e : ℕ) → a ≤ e → pages_met a e ≡ e / 128 - a / 128 + 1
met a e h = omega arith

pub flash_stored : FlashStored
flash_stored a e d m = record {
  programmed = (both_programmed.flash a e d m).programmed;
  page_count_lem = λ f. ap length (flash_stores_fit a e d m f) ∙ length_program_stores a.0 e.0 d m ∙ met a.0 e.0 f.forward;
  rising = λ f.
      subst (Rising (a.0 / 128)) (sym (flash_stores_fit a e d m f))
      (rising_program_stores a.0 e.0 d m flash_pages f.right_size f.forward (omega (arith, f)) (omega (arith, f)));
  none = λ h. flash_stores_not a e d m (unfit flash_size a.0 e.0 d m h);
}

pub bytes_stored : BytesStored
unfolding bytes_stores
bytes_stored a d m = record {
  programmed = λ s. bytes_stores_programmed a d m s.any s.inside s.whole s.short;
  page_count_lem = λ s.
      length_bytes_stores a d m s.any s.inside s.whole s.short ∙ met a.0 (a.0 + length d - 1) (omega (arith, s));
  rising = λ s. rising_bytes_stores a d m s.any s.inside s.whole s.short;
  none = λ h. not_made (storable a.0 d m) _ (λ t. h (is_storable a.0 d m t));
}

pub page_stored : PageStored
unfolding page_store
page_stored p at d m = record {
  programmed = λ w. rw (store_all_page_store p at d m w.within w.there) (overlay_programmed (128 * p.0 + at) d m (omega (arith, w)));
  page_count_lem = λ w. length_page_store p at d m w.within w.there;
  rising = λ w. rising_page_store p at d m w.within w.there;
  none = λ h. not_made (leb (at + length d) page_size && leb (page_size * p.0 + page_size) (length m)) _ (λ t. h (is_within t));
}
  where
    is_within : (leb (at + length d) page_size && leb (page_size * p.0 + page_size) (length m)) ≡ true → Within p.0 at d m
    is_within t =
        let both = (and-eq-true_iff (leb (at + length d) page_size) (leb (page_size * p.0 + page_size) (length m))).0 t in
        record { within = leb-true _ _ both.0; there = leb-true _ _ both.1 }

pub pages_erased : PagesErased
unfolding pages_erase
pages_erased p n m = record {
  programmed = λ e. pages_erase_programmed p n m e.there e.short;
  page_count_lem = λ e. length_pages_erase p n m e.there e.short;
  rising = λ e. rising_pages_erase p n m e.there e.short;
  none = λ h. not_made (erasable p.0 n m) _ (λ t. h (is_erasable t));
}
  where
    is_erasable : erasable p.0 n m ≡ true → Erasable p.0 n m
    is_erasable t =
        let both = (and-eq-true_iff (leb (page_size * (p.0 + n)) (length m)) (leb (length m) most_flash)).0 t in
        record { there = leb-true _ _ both.0; short = leb-true _ _ both.1 }

pub not_erased : NotErased
unfolding block_erase chip_erase
not_erased m h k = let wrong = ne_eqb (length m) flash_size h in (rw wrong, rw wrong)

pub requests_store : RequestsStore
unfolding block_erase chip_erase
requests_store = record {
  programs = λ a e d m f. sym (flash_stores_fit a e d m f);
  asked = λ size a e d m. (programmable_fit size a e d m, fit size a e d m);
  erases_block = λ k m h. rw (eq-eqb (length m) flash_size h);
  erases_chip = λ m h. rw (eq-eqb (length m) flash_size h);
  pages_met_lem = met;
  store_first = λ s ss m. refl;
  no_store = λ m. refl;
  low = (refl, refl);
  middle = (refl, refl);
  high = (refl, refl);
}
