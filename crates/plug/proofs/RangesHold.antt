-- The sentences of specs/Ranges.antt hold.
-- Assumes nothing.
use mathlib.Core.Path.{◌≡◌, refl}
use mathlib.Core.Bool.{Bool, true, false, ◌||◌}
use Prim.Native.Nat.{◌+◌}
use lib.Dec.{ltb}
use borrow.Author.Tests.{le-ltb, lt-ltb}
use Rattle.plug.specs.Commands.{flash_size, most_program}
use Rattle.plug.specs.Ranges.{Ranges}

-- the second of three causes holds, or the third
second_holds : (t u : Bool) → (t || true || u) ≡ true
second_holds true u = refl
second_holds false u = refl

third_holds : (t u : Bool) → (t || u || true) ≡ true
third_holds true u = refl
third_holds false true = refl
third_holds false false = refl

pub ranges : Ranges
ranges = record {
  program_taken = λ a n one few inside. rw (le-ltb n 1 one, le-ltb most_program n few, le-ltb flash_size (a.0 + n) inside);
  program_empty = λ a. refl;
  program_long = λ a n h. rw (lt-ltb most_program n h) (second_holds (ltb n 1) (ltb flash_size (a.0 + n)));
  program_past = λ a n h. rw (lt-ltb flash_size (a.0 + n) h) (third_holds (ltb n 1) (ltb most_program n));
  display_backward = λ a e n h. lt-ltb e.0 a.0 h;
  check_backward = λ a e n h. lt-ltb e.0 a.0 h;
  check_forward = λ a e n h. le-ltb e.0 a.0 h;
  block_erased = λ k n. refl;
  chip_erased = λ n. refl;
  written = λ s n. refl;
  read = λ x n. refl;
  reset_started = λ n. refl;
  address_started = λ a n. refl;
}
