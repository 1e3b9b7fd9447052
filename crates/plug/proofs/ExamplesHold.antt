-- The examples of specs/Examples.antt hold; each is computed.
-- Assumes nothing.
use mathlib.Core.Path.{refl}
use Rattle.record.specs.Reader.{reading}
use Rattle.record.specs.Digits.{digit_value}
use Rattle.plug.specs.Commands.{form}
use Rattle.plug.specs.Answers.{display_text}
use Rattle.plug.specs.Examples.{Examples}

pub examples : Examples
unfolding reading digit_value form display_text
examples = record {
  programming = refl;
  programmed_data = refl;
  blank_check = refl;
  blank_ok = refl;
  blank_at = refl;
  checksum_error = refl;
  display = refl;
  display_lines_lem = λ f. refl;
  display_from_0009 = λ f. refl;
  ssb_to_level_2 = refl;
  bsb_to_55 = refl;
  read_sbv = refl;
  sbv_value = refl;
  version_example = refl;
  version = refl;
  full_chip_erase = refl;
  erase_block_1 = refl;
  start_reset = refl;
  start_at = refl;
}
