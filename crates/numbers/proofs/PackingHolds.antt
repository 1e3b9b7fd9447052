-- The rows of specs/Packing.antt hold; each is computed.
-- Assumes nothing.
use mathlib.Core.Path.{refl}
use Rattle.numbers.specs.Layout.{pending_of, command_for}
use Rattle.numbers.specs.Packing.{WordsPacked, ConfigPacked, CommandPacked, Packing}

words_packed : WordsPacked
words_packed = record {
  words = λ a b c d. refl;
  bytes = λ low high. refl;
  first = λ n. refl;
  second = λ n. refl;
  third = λ n. refl;
  fourth = λ n. refl;
  low = λ w. refl;
  high = λ w. refl;
}

config_packed : ConfigPacked
config_packed = record {
  packed_bytes = λ c. refl;
  first_two = λ n. (refl, refl);
  next_two = λ n. (refl, refl);
  two_more = λ n. (refl, refl);
  last_two = λ n. (refl, refl);
}

command_packed : CommandPacked
command_packed = record {
  program_flash_lem = λ a e. refl;
  program_eeprom_lem = λ a e. refl;
  read_flash = λ a e. refl;
  read_eeprom = λ a e. refl;
  blank_check = λ a e. refl;
  blocks = (refl, refl, refl);
  kinds_alone = (refl, refl, refl, refl);
  write_byte = λ i v. refl;
  write_hsb = λ v. refl;
  start_at = λ a. refl;
  read_byte = λ i. refl;
}

pub packing : Packing
unfolding pending_of command_for
packing = record {
  words = words_packed;
  sessions = λ state status busy. record {
    nothing = refl;
    of_flash = λ a e. refl;
    of_eeprom = λ a e. refl;
    blank_report = λ a. refl;
    one_byte = λ v. refl;
    reset = λ a. refl;
    at_address = λ a. refl;
  };
  pending = λ first last. record { nothing = refl; of_flash = refl; of_eeprom = refl };
  configurations = config_packed;
  commands = command_packed;
  commands_read = λ first last. record { program_flash_lem = refl; program_eeprom_lem = refl; read_flash = refl; read_eeprom = refl; blank_check = refl };
}
