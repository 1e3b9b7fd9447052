-- `digits::table::digit_table` meets its contract: that the code's table is `tabled digit_value 0 characters` is the one `refl`, which
-- is computed over all 256 entries.
-- Assumes nothing.
use Rattle.std.proofs.Common.{refl}
use Rattle.record.specs.Digits.{digit_value}
use Rattle.digits.proofs.table.digit_table.Goals as goal

pub returns : goal.returns
unfolding digit_value
returns c = refl
