-- The sentences of specs/Stored.antt hold; but for the two bits of HSB each is computed.
-- Assumes nothing.
use mathlib.Core.Path.{refl, ap}
use native.Mathlib.Omega.{arith}
use Rattle.plug.specs.Config.{config}
use Rattle.plug.specs.Step.{perform}
use Rattle.plug.specs.Stored.{Stored}

pub stored : Stored
unfolding perform
stored = record {
  delivered = refl;
  level_1 = λ b v s h. refl;
  level_2 = λ b v s h. refl;
  bsb = λ x b v s h. refl;
  sbv = λ x b v s h. refl;
  boot_erased = λ b v s h. refl;
  chip_erased = λ b v s h. refl;
  bljb_programmed = λ high bit low p q b v s. ap (config b v s) (omega arith);
  bljb_unprogrammed = λ high bit low p q b v s. ap (config b v s) (omega arith);
  x2_programmed = λ bit low p q b v s. ap (config b v s) (omega arith);
  x2_unprogrammed = λ bit low p q b v s. ap (config b v s) (omega arith);
  at_level_1 = λ c. refl;
  at_level_2 = λ c. refl;
  ssb_told = λ b v s h. refl;
  bsb_told = λ b v s h. refl;
  sbv_told = λ b v s h. refl;
  hsb_told = λ b v s h. refl;
  fixed_told = λ x b v s h. refl;
  program_pages = λ a b d. refl;
  block_0_pages = λ b d. refl;
  block_1_pages = λ b d. refl;
  block_2_pages = λ b d. refl;
  block_3_pages = λ b d. refl;
  chip_pages = λ b d. refl;
  display_none = λ a e b d. refl;
  check_none = λ a e b d. refl;
  write_none = λ s b d. refl;
  read_none = λ x b d. refl;
  reset_none = λ b d. refl;
  start_none = λ a b d. refl;
  write_stores = λ s b d. refl;
  chip_stores_lem = λ b d. refl;
  program_leaves = λ a b d. refl;
  display_leaves = λ a e b d. refl;
  check_leaves = λ a e b d. refl;
  block_leaves = λ k b d. refl;
  read_leaves = λ x b d. refl;
  reset_leaves = λ b d. refl;
  start_leaves = λ a b d. refl;
}
