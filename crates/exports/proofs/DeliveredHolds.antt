-- The numbers of a delivered board, worked out.
-- Assumes nothing.
use mathlib.Core.Path.{refl}
use Rattle.exports.specs.Delivered.{DeliveredNumbered}

pub delivered_numbered : DeliveredNumbered
delivered_numbered = record { loader = refl; serial = refl }
