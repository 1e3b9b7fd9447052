-- Laws of the configuration bytes.
-- Assumes nothing.
use Rattle.std.specs.Prelude.{None}
use mathlib.Core.Path.{◌≡◌, refl, ap}
use Prim.Native.Nat.{ℕ, ◌/◌, ◌%◌, ◌<◌}
use native.Mathlib.Omega.{arith}
use borrow.Author.Tests.{lt-leb, ne_eqb}
use Rattle.config.specs.Config.{Config, new_hsb, byte_read, bytes_read, BytesNumbered}

-- "the high four bits change, the low four stay"
pub new_hsb_high : (v old : ℕ) → new_hsb v old / 16 ≡ v / 16
new_hsb_high v old = omega arith

pub new_hsb_low : (v old : ℕ) → new_hsb v old % 16 ≡ old % 16
new_hsb_low v old = omega arith

-- an index that the table has not
byte_read_unknown : (i : ℕ) (c : Config) → 0x06 < i → (i ≡ 0x30 → ⊥) → (i ≡ 0x31 → ⊥) → (i ≡ 0x60 → ⊥) → (i ≡ 0x61 → ⊥) → byte_read i c ≡ None
unfolding byte_read
byte_read_unknown i c h a b d e = rw (lt-leb i 0x06 h, ne_eqb i 0x30 a, ne_eqb i 0x31 b, ne_eqb i 0x60 d, ne_eqb i 0x61 e)

pub bytes_numbered : BytesNumbered
unfolding byte_read
bytes_numbered c = record {
  bsb = refl;
  sbv = refl;
  p1cf = refl;
  p3cf = refl;
  p4cf = refl;
  ssb = refl;
  eb = refl;
  manufacturer = refl;
  family = refl;
  product = refl;
  revision = refl;
  no_other = λ i h a b d e. ap bytes_read (byte_read_unknown i c h a b d e);
}
