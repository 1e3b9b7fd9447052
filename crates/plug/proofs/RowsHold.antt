-- The rows of specs/Rows.antt hold: each is computed. That there is no other goes test by test through the tables.
-- Assumes nothing.
use mathlib.Core.Path.{◌≡◌, refl, sym, ap, ◌∙◌}
use mathlib.Core.Bool.{true, false, true≢false}
use mathlib.Core.List.{List}
use Prim.Native.Nat.{ℕ, ◌+◌, ◌*◌}
use native.Mathlib.Omega.{arith}
use lib.Dec.{eqb}
use lib.ListN.{length}
use borrow.Author.Tests.{ne_eqb}
use Rattle.words.specs.Words.{among}
use Rattle.plug.specs.Commands.{form}
use Rattle.plug.specs.Rows.{Rows, types, change_lengths, changes_of2, changes_of3, reads}

-- a number that is none of some is not this one of them
other : (n : ℕ) (ms : List ℕ) → among n ms ≡ false → (m : ℕ) → among m ms ≡ true → eqb n m ≡ false
other n ms q m p = ne_eqb n m (λ e. true≢false (sym p ∙ ap (λ k. among k ms) (sym e) ∙ q))

pub rows : Rows
unfolding form
rows = record {
  program_flash_lem = λ offset d. refl;
  read_flash = λ h l i m offset. refl;
  blank_check = λ h l i m offset. refl;
  erase_boot = λ offset. refl;
  ssb_level_1 = λ offset. refl;
  ssb_level_2 = λ offset. refl;
  program_bsb = λ v offset. refl;
  program_sbv = λ v offset. refl;
  bljb_0 = λ offset. refl;
  bljb_1 = λ offset. refl;
  x2_0 = λ offset. refl;
  x2_1 = λ offset. refl;
  manufacturer = λ offset. refl;
  family = λ offset. refl;
  product = λ offset. refl;
  revision = λ offset. refl;
  read_ssb_lem = λ offset. refl;
  read_bsb = λ offset. refl;
  read_sbv = λ offset. refl;
  read_hsb_lem = λ offset. refl;
  device_1 = λ offset. refl;
  device_2 = λ offset. refl;
  version = λ offset. refl;
  erase_block_0 = λ offset. refl;
  erase_block_1 = λ offset. refl;
  erase_block_2 = λ offset. refl;
  erase_block_3 = λ offset. refl;
  erase_chip = λ offset. refl;
  start_reset = λ offset. refl;
  start_jump = λ h l offset. refl;
  no_type = λ kind d q offset.
      let no = other kind types q in
      rw (no 0x00 refl, no 0x03 refl, no 0x04 refl, no 0x05 refl);
  no_length_03h = λ d q offset.
      let no = other (length d) change_lengths q in
      rw (no 1 refl, no 2 refl, no 3 refl, no 4 refl);
  no_length_04h = λ d q offset. rw (ne_eqb (length d) 5 q);
  no_length_05h = λ d q offset. rw (ne_eqb (length d) 2 q);
  no_change_1 = λ x q offset. rw (ne_eqb x 0x07 q);
  no_change_2 = λ x y q offset.
      let no = other (x * 256 + y) changes_of2 q in
      rw (no 0x0100 refl, no 0x0120 refl, no 0x0140 refl, no 0x0180 refl, no 0x0300 refl, no 0x0400 refl, no 0x0500 refl, no 0x0501 refl);
  no_change_3 = λ x y v q offset.
      let no = other (x * 256 + y) changes_of3 q in
      rw (no 0x0600 refl, no 0x0601 refl, no 0x0A04 refl, no 0x0A08 refl);
  no_bljb = λ v q offset. rw (ne_eqb v 0x00 (λ z. omega arith), ne_eqb v 0x01 (λ z. omega arith));
  no_x2 = λ v q offset. rw (ne_eqb v 0x00 (λ z. omega arith), ne_eqb v 0x01 (λ z. omega arith));
  no_change_4 = λ x y h l q offset. rw (ne_eqb (x * 256 + y) 0x0301 q);
  no_range = λ h l i m x q offset. rw (ne_eqb x 0x00 (λ z. omega arith), ne_eqb x 0x01 (λ z. omega arith));
  no_read = λ x y q offset.
      let no = other (x * 256 + y) reads q in
      rw (
        no 0x0000 refl,
        no 0x0001 refl,
        no 0x0002 refl,
        no 0x0003 refl,
        no 0x0700 refl,
        no 0x0701 refl,
        no 0x0702 refl,
        no 0x0B00 refl,
        no 0x0E00 refl,
        no 0x0E01 refl,
        no 0x0F00 refl,
      );
}
