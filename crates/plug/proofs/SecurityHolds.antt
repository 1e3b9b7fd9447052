-- The sentences of specs/Security.antt hold; each is computed.
-- Assumes nothing.
use mathlib.Core.Path.{◌≡◌, refl}
use mathlib.Core.Bool.{true, false, false≢true}
use mathlib.Core.List.{List}
use Prim.Native.Nat.{ℕ, zero-le}
use lib.Dec.{leb}
use borrow.Author.Tests.{ne_eqb, le-leb, le-ltb}
use Rattle.config.specs.Level.{level_number}
use Rattle.config.specs.declared.level.Level.{Level}
use Rattle.config.specs.declared.level.Level.TheVariants.{L0, L1, L2}
use Rattle.config.proofs.LevelLaws.{ffh_sets_level_0, feh_sets_level_1, other_sets_level_2}
use Rattle.plug.specs.Config.{Setting, SsbLevel1, SsbLevel2, BootErased, ToBsb, ToSbv, Bljb, X2}
use Rattle.plug.specs.Levels.{Write, highest, allowed}
use Rattle.plug.specs.Commands.{form}
use Rattle.plug.specs.Security.{Security}

-- what is allowed at level 2 is allowed at every level
pub at_every_level : (l : Level) → leb (level_number l) 2 ≡ true
at_every_level L0 = refl
at_every_level L1 = refl
at_every_level L2 = refl

-- no setting but one is written at level 1, and none at level 2
at_1 : (s : Setting) → allowed (Write s) L1 ≡ true → s ≡ SsbLevel2
at_1 SsbLevel1 q = absurd (false≢true q)
at_1 SsbLevel2 q = refl
at_1 BootErased q = absurd (false≢true q)
at_1 (ToBsb v) q = absurd (false≢true q)
at_1 (ToSbv v) q = absurd (false≢true q)
at_1 (Bljb x) q = absurd (false≢true q)
at_1 (X2 x) q = absurd (false≢true q)

pub no_write : (s : Setting) → allowed (Write s) L2 ≡ false
no_write SsbLevel1 = refl
no_write SsbLevel2 = refl
no_write BootErased = refl
no_write (ToBsb v) = refl
no_write (ToSbv v) = refl
no_write (Bljb v) = refl
no_write (X2 v) = refl

-- a record of another type than 00h, whatever its load offset
offset_free : (kind offset other : ℕ) (d : List ℕ) → (kind ≡ 0x00 → ⊥) → form kind offset d ≡ form kind other d
unfolding form
offset_free kind offset other d h = rw (ne_eqb kind 0x00 h)

pub security : Security
security = record {
  all_at_0 = λ k. le-leb 0 (level_number (highest k)) zero-le;
  flash_written = λ a. (refl, refl, refl);
  flash_read = λ a e. (refl, refl, refl);
  block_erased = λ k. (refl, refl, refl);
  level_1_writes = at_1;
  level_2_written = (refl, refl, refl);
  level_2_writes = no_write;
  bsb_read = (refl, refl, refl);
  sbv_read = (refl, refl, refl);
  hsb_read = (refl, refl, refl);
  ssb_read = at_every_level;
  fixed_read = λ v. at_every_level;
  chip_erased = at_every_level;
  blank_checked = λ a e. at_every_level;
  reset_started = at_every_level;
  address_started = λ a. at_every_level;
  ffh_at_0 = λ c. ffh_sets_level_0 c.ssb;
  feh_at_1 = λ c. feh_sets_level_1 c.ssb;
  other_at_2 = λ c. other_sets_level_2 c.ssb;
  display_unlimited = λ a e n h. le-ltb e.0 a.0 h;
  delivered_at_2 = refl;
  erased_bytes = refl;
  erased_at_0 = refl;
  boot_erased = refl;
  bljb_set = refl;
  x2_cleared = refl;
  offset_not_used = offset_free;
  block_0 = (refl, refl);
  block_1 = (refl, refl);
  block_2 = (refl, refl);
  block_3 = (refl, refl);
  whole_flash = refl;
}
