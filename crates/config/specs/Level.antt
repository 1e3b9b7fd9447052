-- The papers' levels of security: the level of an SSB byte, and of a board. Assumes nothing: these are definitions.
use Rattle.std.specs.Prelude.{if◌then◌else◌, ◌≡◌, ℕ, eqb}
use Rattle.config.specs.Config.{Config}
pub use Rattle.config.specs.declared.level.Level.{Level}
pub use Rattle.config.specs.declared.level.Level.TheVariants.{L0, L1, L2}

-- 01: "SSB FFh is level 0, FEh level 1, FCh level 2." P1 of 02: "a value other than FFh and FEh is level 2", so FCh is no case apart.
abbrev pub ssb_level : ℕ → Level
ssb_level ssb =
    if eqb ssb 0xFF then L0 else
    if eqb ssb 0xFE then L1 else L2

abbrev pub level : Config → Level
level c = ssb_level c.ssb

-- the papers' number of a level
abbrev pub level_number : Level → ℕ
level_number L0 = 0
level_number L1 = 1
level_number L2 = 2

-- the same sentences, one by one, in the papers' numbers
pub record LevelsNumbered : Type 0 where
  pub ffh : (c : Config) → c.ssb ≡ 0xFF → level_number (level c) ≡ 0
  pub feh : (c : Config) → c.ssb ≡ 0xFE → level_number (level c) ≡ 1
  pub other : (c : Config) → (c.ssb ≡ 0xFF → ⊥) → (c.ssb ≡ 0xFE → ⊥) → level_number (level c) ≡ 2
  -- a board has the level of its byte
  pub of_the_byte : (c : Config) → level c ≡ ssb_level c.ssb
