-- The table of levels holds, each cell computed.
-- Assumes nothing.
use mathlib.Core.Path.{refl}
use borrow.Author.Tests.{ne_eqb}
use Rattle.rules.specs.LevelTable.{LevelTable}

pub level_table : LevelTable
level_table = record {
  flash_programmed = λ a e. (refl, refl, refl);
  eeprom_programmed = λ a e. (refl, refl, refl);
  block_erased = λ k. (refl, refl, refl);
  hsb_written = λ v. (refl, refl, refl);
  memory_read = λ r. (refl, refl, refl);
  hsb_read = (refl, refl, refl);
  ssb_feh = (refl, refl, refl);
  ssb_fch = (refl, refl, refl);
  ssb_other = λ v f c. (rw (ne_eqb v 0xFE f, ne_eqb v 0xFC c), rw (ne_eqb v 0xFC c), refl);
  blank_checked = λ a e. (refl, refl, refl);
  chip_erased = (refl, refl, refl);
  reset_started = (refl, refl, refl);
  address_started = λ a. (refl, refl, refl);
  version_read = (refl, refl, refl);
  byte_read_lem = λ i. (refl, refl, refl);
  byte_written = λ i v h. (rw (ne_eqb i 0x05 h), rw (ne_eqb i 0x05 h), rw (ne_eqb i 0x05 h));
}
