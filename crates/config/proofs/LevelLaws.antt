-- Laws of the level of security: each SSB has the level that the papers give it.
-- Assumes nothing.
use mathlib.Core.Path.{◌≡◌, refl, ap}
use Prim.Native.Nat.{ℕ}
use borrow.Author.Tests.{ne_eqb}
use Rattle.config.specs.Config.{Config}
use Rattle.config.specs.Level.{ssb_level, level, L0, L1, L2, level_number, LevelsNumbered}

-- of the byte
pub ffh_sets_level_0 : (ssb : ℕ) → ssb ≡ 0xFF → ssb_level ssb ≡ L0
ffh_sets_level_0 ssb e = simp e

pub feh_sets_level_1 : (ssb : ℕ) → ssb ≡ 0xFE → ssb_level ssb ≡ L1
feh_sets_level_1 ssb e = simp e

pub other_sets_level_2 : (ssb : ℕ) → (ssb ≡ 0xFF → ⊥) → (ssb ≡ 0xFE → ⊥) → ssb_level ssb ≡ L2
other_sets_level_2 ssb n m = simp (ne_eqb _ _ n, ne_eqb _ _ m)

-- of a board with that byte
ffh_is_level_0 : (c : Config) → c.ssb ≡ 0xFF → level c ≡ L0
ffh_is_level_0 c e = ffh_sets_level_0 c.ssb e

feh_is_level_1 : (c : Config) → c.ssb ≡ 0xFE → level c ≡ L1
feh_is_level_1 c e = feh_sets_level_1 c.ssb e

pub other_is_level_2 : (c : Config) → (c.ssb ≡ 0xFF → ⊥) → (c.ssb ≡ 0xFE → ⊥) → level c ≡ L2
other_is_level_2 c n m = other_sets_level_2 c.ssb n m

pub levels_numbered : LevelsNumbered
levels_numbered = record {
  ffh = λ c e. ap level_number (ffh_is_level_0 c e);
  feh = λ c e. ap level_number (feh_is_level_1 c e);
  other = λ c n m. ap level_number (other_is_level_2 c n m);
  of_the_byte = λ c. refl;
}
