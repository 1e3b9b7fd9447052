-- The rows of specs/Tables.antt hold; each is computed.
-- Assumes nothing.
use mathlib.Core.Path.{refl}
use Rattle.plugnumbers.specs.Tables.{Tables}

pub tables : Tables
tables = record {
  config = (refl, refl);
  four_bytes = λ b v s h. refl;
  bytes_read = λ n. refl;
  words = λ a b. refl;
  answered = refl;
  started_by_reset = refl;
  started_at = λ a. refl;
  refused = λ k. refl;
}
