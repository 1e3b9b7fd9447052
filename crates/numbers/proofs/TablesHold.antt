-- The rows of specs/Tables.antt hold; but for the kinds that no row has and the outcomes of every address each is computed.
-- Assumes nothing.
use mathlib.Core.Path.{◌≡◌, refl}
use Prim.Native.Nat.{ℕ, ◌<◌}
use native.Mathlib.Omega.{arith}
use borrow.Author.Tests.{ne_eqb}
use Rattle.command.specs.declared.command.Command.TheVariants.{ReadHsb}
use Rattle.rules.specs.declared.session.Pending.TheVariants.{Nothing}
use Rattle.numbers.specs.Layout.{pending_of, command_for}
use Rattle.numbers.specs.Tables.{Tables}

no_pending : (kind first last : ℕ) → 6 < kind → pending_of kind first last ≡ Nothing
unfolding pending_of
no_pending kind first last h = rw (
  ne_eqb kind 1 (λ z. omega arith),
  ne_eqb kind 2 (λ z. omega arith),
  ne_eqb kind 3 (λ z. omega arith),
  ne_eqb kind 4 (λ z. omega arith),
  ne_eqb kind 5 (λ z. omega arith),
  ne_eqb kind 6 (λ z. omega arith),
)

no_row : (kind first last : ℕ) → 14 < kind → command_for kind first last ≡ ReadHsb
unfolding command_for
no_row kind first last h = rw (
  ne_eqb kind 0 (λ z. omega arith),
  ne_eqb kind 1 (λ z. omega arith),
  ne_eqb kind 2 (λ z. omega arith),
  ne_eqb kind 3 (λ z. omega arith),
  ne_eqb kind 4 (λ z. omega arith),
  ne_eqb kind 5 (λ z. omega arith),
  ne_eqb kind 6 (λ z. omega arith),
  ne_eqb kind 7 (λ z. omega arith),
  ne_eqb kind 8 (λ z. omega arith),
  ne_eqb kind 9 (λ z. omega arith),
  ne_eqb kind 10 (λ z. omega arith),
  ne_eqb kind 11 (λ z. omega arith),
  ne_eqb kind 12 (λ z. omega arith),
  ne_eqb kind 13 (λ z. omega arith),
  ne_eqb kind 14 (λ z. omega arith),
)

pub tables : Tables
unfolding pending_of command_for
tables = record {
  nothing = λ busy. (refl, refl);
  read_of_flash = λ busy. (refl, refl);
  read_of_eeprom = λ busy. (refl, refl);
  blank_report = λ busy. (refl, refl);
  one_byte = λ busy. (refl, refl);
  pending_reset = λ busy. (refl, refl);
  pending_start = λ busy. (refl, refl);
  no_kind = no_pending;
  pending_alone = λ first last. (refl, refl);
  starts_alone = λ first last. (refl, refl);
  four_words = λ n busy. refl;
  low_8_bits = λ busy. refl;
  config = (refl, refl);
  program_flash_lem = (refl, refl);
  program_eeprom_lem = (refl, refl);
  read_flash = (refl, refl);
  read_eeprom = (refl, refl);
  blank_check = (refl, refl);
  erase_0000h = (refl, refl);
  erase_2000h = (refl, refl);
  erase_4000h = (refl, refl);
  erase_chip = (refl, refl);
  write_byte = (refl, refl);
  write_hsb = (refl, refl);
  start_by_reset = (refl, refl);
  start_at = (refl, refl);
  read_version = (refl, refl);
  read_byte = (refl, refl);
  read_hsb_lem = (refl, refl);
  blocks_alone = λ first last. (refl, refl, refl);
  kind_alone = λ first last. (refl, refl, refl);
  low_bytes = λ first last. (refl, refl, refl);
  start_alone = λ first last. refl;
  three_words = λ n. refl;
  no_command = no_row;
  done = refl;
  stall = refl;
  started_by_reset = λ a. omega arith;
  started_at = λ a. omega arith;
  refused = λ k. omega arith;
  stays = λ n lent new. refl;
  new_done = λ lent new. refl;
  new_stall = λ lent new. refl;
  new_start = λ k a lent new. refl;
}
