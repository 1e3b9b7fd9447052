-- What is packed is unpacked again, and the other way round; a refusal leaves the number: the statements of specs/Unpacked.antt.
-- Assumes nothing.
use mathlib.Core.Path.{◌≡◌}
use Prim.Native.Nat.{ℕ, ◌+◌, ◌*◌, ◌/◌, ◌%◌, ◌<◌}
use native.Mathlib.Omega.{arith}
use Rattle.plug.specs.Config.{config}
use Rattle.plug.specs.Step.{board}
use Rattle.plug.proofs.EffectsHold.{effects, refusals_move_nothing}
use Rattle.plugnumbers.specs.Layout.{pack_config, config_of}
use Rattle.plugnumbers.specs.Unpacked.{Byte, ConfigKept, NumberKept, RefusedStays}

module _ (b v s h : ℕ) (p : Byte b) (q : Byte v) (r : Byte s) (t : Byte h) where
  first_byte : pack_config (config b v s h) % 256 ≡ b
  first_byte = omega arith

  second_byte : pack_config (config b v s h) / 0x100 % 256 ≡ v
  second_byte = omega arith

  third_byte : pack_config (config b v s h) / 0x10000 % 256 ≡ s
  third_byte = omega arith

  fourth_byte : pack_config (config b v s h) / 0x1000000 % 256 ≡ h
  fourth_byte = omega arith

pub config_kept : ConfigKept
config_kept c f =
    rw (
      first_byte c.bsb c.sbv c.ssb c.hsb f.bsb f.sbv f.ssb f.hsb,
      second_byte c.bsb c.sbv c.ssb c.hsb f.bsb f.sbv f.ssb f.hsb,
      third_byte c.bsb c.sbv c.ssb c.hsb f.bsb f.sbv f.ssb f.hsb,
      fourth_byte c.bsb c.sbv c.ssb c.hsb f.bsb f.sbv f.ssb f.hsb,
    )

-- a byte and what stands above it
second_above : (n : ℕ) → n / 0x100 ≡ 256 * (n / 0x10000) + n / 0x100 % 256
second_above n = omega arith

third_above : (n : ℕ) → n / 0x10000 ≡ 256 * (n / 0x1000000) + n / 0x10000 % 256
third_above n = omega arith

fourth_above : (n : ℕ) → n < 0x100000000 → n / 0x1000000 ≡ n / 0x1000000 % 256
fourth_above n p = omega arith

pub number_kept : NumberKept
number_kept n p = omega (arith, second_above n, third_above n, fourth_above n p)

pub refused_stays : RefusedStays
refused_stays n f cs size k p h =
    let b = board (config_of n) f in
    rw ((effects b cs size).config, (refusals_move_nothing b cs size k h).not_done) (number_kept n p)
