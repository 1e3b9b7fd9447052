-- The configuration of a delivered board as the number that a caller is given, of each of the two loaders, written out. The statement is
-- proved in proofs/DeliveredHolds.antt.
use Rattle.std.specs.Prelude.{◌≡◌}
use Rattle.config.specs.Config.{delivered_config}
use Rattle.numbers.specs.Layout.{pack_config}
use Rattle.plug.specs.Config.{delivered_config as plug_delivered}
use Rattle.plugnumbers.specs.Layout.{pack_config as pack_plug_config}

-- 01: "BSB FFh, SBV FCh, P1_CF FEh, P3_CF FFh, P4_CF FFh, SSB FFh, EB FFh .., and HSB BBh", BSB the lowest byte and HSB the highest;
-- P2 of 02: "SBV F0h and SSB FCh as delivered", with BSB FFh below them and HSB BBh above
pub record DeliveredNumbered : Type 0 where
  pub loader : pack_config delivered_config ≡ 0xBBFFFFFFFFFEFCFF
  pub serial : pack_plug_config plug_delivered ≡ 0xBBFCF0FF
