-- Records that 002 prints, read and written: "HOST : 01 0010 00 55 9A", "HOST : 05 0000 04 0000 7FFF 01 78", also in small letters, and
-- the same with a wrong checksum, to which the bootloader answers X.
-- Assumes nothing.
use Rattle.std.specs.Prelude.{Ok, Err}
use mathlib.Core.Path.{◌≡◌, refl}
use mathlib.Core.List.{[], ◌∷◌}
use Rattle.lines.specs.Text.{ascii}
use Rattle.record.specs.Digits.{digit_value}
use Rattle.record.specs.Record.{record_of}
use Rattle.record.specs.Reader.{WrongChecksum, reading}
use Rattle.record.specs.RoundTrip.{fields}

pub data_read_lem : reading (ascii ":01001000559A") ≡ Ok (fields 0x0010 0x00 1)
unfolding reading digit_value
data_read_lem = refl

pub data_written : record_of 0x0010 0x00 (0x55 ∷ []) ≡ ascii ":01001000559A"
unfolding record_of
data_written = refl

pub blank_check_read : reading (ascii ":0500000400007fff0178") ≡ Ok (fields 0x0000 0x04 5)
unfolding reading digit_value
blank_check_read = refl

pub blank_check_written : record_of 0x0000 0x04 (0x00 ∷ 0x00 ∷ 0x7F ∷ 0xFF ∷ 0x01 ∷ []) ≡ ascii ":0500000400007FFF0178"
unfolding record_of
blank_check_written = refl

pub wrong_checksum_read : reading (ascii ":0500000400007FFF0170") ≡ Err WrongChecksum
unfolding reading digit_value
wrong_checksum_read = refl
