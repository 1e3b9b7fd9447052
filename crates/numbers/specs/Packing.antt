-- The tables of the header for C of every value: which word holds what, both ways. Proved in proofs/PackingHolds.antt.
use Rattle.std.specs.Prelude.{◌≡◌, ℕ, ◌+◌, ◌*◌, ◌/◌, ◌%◌}
use Rattle.memory.specs.Memory.{flash_address, eeprom_address}
use Rattle.memory.specs.declared.address.FlashAddress.{FlashAddress}
use Rattle.memory.specs.declared.address.EepromAddress.{EepromAddress}
use Rattle.memory.specs.declared.address.Range.TheVariants.{Flash, Eeprom}
use Rattle.memory.specs.declared.address.Block.TheVariants.{Low, Middle, High}
use Rattle.config.specs.declared.config.Config.{Config}
use Rattle.command.specs.declared.command.Command.TheVariants.{ProgramFlash, ProgramEeprom, Read, BlankCheck, EraseBlock, EraseChip, WriteByte, WriteHsb}
use Rattle.command.specs.declared.command.Command.TheVariants.{StartReset, StartAt, ReadVersion, ReadByte, ReadHsb}
use Rattle.rules.specs.Session.{session}
use Rattle.rules.specs.declared.session.Pending.TheVariants.{Nothing, MemoryRead, BlankReport, OneByte, Start}
use Rattle.rules.specs.declared.session.StartKind.TheVariants.{Reset, AtAddress}
use Rattle.numbers.specs.Layout.{packed, word0, word1, word2, word3, low_byte, high_byte, two_bytes}
use Rattle.numbers.specs.Layout.{pack_session, pending_of, pack_config, config_of, pack_command, command_for}

-- four words of 16 bits, and two bytes of a word, the lowest first
pub record WordsPacked : Type 0 where
  pub words : (a b c d : ℕ) → packed a b c d ≡ a + 0x10000 * b + 0x100000000 * c + 0x1000000000000 * d
  pub bytes : (low high : ℕ) → two_bytes low high ≡ low + 0x100 * high
  pub first : (n : ℕ) → word0 n ≡ n % 0x10000
  pub second : (n : ℕ) → word1 n ≡ n / 0x10000 % 0x10000
  pub third : (n : ℕ) → word2 n ≡ n / 0x100000000 % 0x10000
  pub fourth : (n : ℕ) → word3 n ≡ n / 0x1000000000000 % 0x10000
  pub low : (w : ℕ) → low_byte w ≡ w % 0x100
  pub high : (w : ℕ) → high_byte w ≡ w / 0x100 % 0x100

-- a session of this state and status, whatever its busy count: their bytes are the first word, the kind is the second
pub record SessionPacked (state status busy : ℕ) : Type 0 where
  pub nothing : pack_session (session state status Nothing busy) ≡ packed (two_bytes state status) 0 0 0
  pub of_flash : (a e : FlashAddress) → pack_session (session state status (MemoryRead (Flash a e)) busy) ≡ packed (two_bytes state status) 1 a.0 e.0
  pub of_eeprom : (a e : EepromAddress) → pack_session (session state status (MemoryRead (Eeprom a e)) busy) ≡ packed (two_bytes state status) 2 a.0 e.0
  pub blank_report : (a : FlashAddress) → pack_session (session state status (BlankReport a) busy) ≡ packed (two_bytes state status) 3 a.0 0
  pub one_byte : (v : ℕ) → pack_session (session state status (OneByte v) busy) ≡ packed (two_bytes state status) 4 v 0
  pub reset : (a : FlashAddress) → pack_session (session state status (Start Reset a) busy) ≡ packed (two_bytes state status) 5 a.0 0
  pub at_address : (a : FlashAddress) → pack_session (session state status (Start AtAddress a) busy) ≡ packed (two_bytes state status) 6 a.0 0

-- what is pending, of the kinds that Tables has not for every number
pub record PendingRead (first last : ℕ) : Type 0 where
  pub nothing : pending_of 0 first last ≡ Nothing
  pub of_flash : pending_of 1 first last ≡ MemoryRead (Flash (flash_address first) (flash_address last))
  pub of_eeprom : pending_of 2 first last ≡ MemoryRead (Eeprom (eeprom_address first) (eeprom_address last))

-- a configuration: BSB, SBV, P1_CF, P3_CF, P4_CF, SSB, EB and HSB, the lowest first
pub record ConfigPacked : Type 0 where
  pub packed_bytes : (c : Config)
      → pack_config c ≡ packed (two_bytes c.bsb c.sbv) (two_bytes c.p1cf c.p3cf) (two_bytes c.p4cf c.ssb) (two_bytes c.eb c.hsb)
  pub first_two : (n : ℕ) → ((config_of n).bsb ≡ low_byte (word0 n)) × ((config_of n).sbv ≡ high_byte (word0 n))
  pub next_two : (n : ℕ) → ((config_of n).p1cf ≡ low_byte (word1 n)) × ((config_of n).p3cf ≡ high_byte (word1 n))
  pub two_more : (n : ℕ) → ((config_of n).p4cf ≡ low_byte (word2 n)) × ((config_of n).ssb ≡ high_byte (word2 n))
  pub last_two : (n : ℕ) → ((config_of n).eb ≡ low_byte (word3 n)) × ((config_of n).hsb ≡ high_byte (word3 n))

-- a command: its kind is the first word, its numbers follow, and every other bit is 0
pub record CommandPacked : Type 0 where
  pub program_flash_lem : (a e : FlashAddress) → pack_command (ProgramFlash a e) ≡ packed 0 a.0 e.0 0
  pub program_eeprom_lem : (a e : EepromAddress) → pack_command (ProgramEeprom a e) ≡ packed 1 a.0 e.0 0
  pub read_flash : (a e : FlashAddress) → pack_command (Read (Flash a e)) ≡ packed 2 a.0 e.0 0
  pub read_eeprom : (a e : EepromAddress) → pack_command (Read (Eeprom a e)) ≡ packed 3 a.0 e.0 0
  pub blank_check : (a e : FlashAddress) → pack_command (BlankCheck a e) ≡ packed 4 a.0 e.0 0
  pub blocks : (pack_command (EraseBlock Low) ≡ 5) × (pack_command (EraseBlock Middle) ≡ 6) × (pack_command (EraseBlock High) ≡ 7)
  pub kinds_alone : (pack_command EraseChip ≡ 8) × (pack_command StartReset ≡ 11) × (pack_command ReadVersion ≡ 13) × (pack_command ReadHsb ≡ 15)
  pub write_byte : (i v : ℕ) → pack_command (WriteByte i v) ≡ packed 9 i v 0
  pub write_hsb : (v : ℕ) → pack_command (WriteHsb v) ≡ packed 10 v 0 0
  pub start_at : (a : FlashAddress) → pack_command (StartAt a) ≡ packed 12 a.0 0 0
  pub read_byte : (i : ℕ) → pack_command (ReadByte i) ≡ packed 14 i 0 0

-- a command read, of the kinds that Tables has not for every number
pub record CommandRead (first last : ℕ) : Type 0 where
  pub program_flash_lem : command_for 0 first last ≡ ProgramFlash (flash_address first) (flash_address last)
  pub program_eeprom_lem : command_for 1 first last ≡ ProgramEeprom (eeprom_address first) (eeprom_address last)
  pub read_flash : command_for 2 first last ≡ Read (Flash (flash_address first) (flash_address last))
  pub read_eeprom : command_for 3 first last ≡ Read (Eeprom (eeprom_address first) (eeprom_address last))
  pub blank_check : command_for 4 first last ≡ BlankCheck (flash_address first) (flash_address last)

pub record Packing : Type 0 where
  pub words : WordsPacked
  pub sessions : (state status busy : ℕ) → SessionPacked state status busy
  pub pending : (first last : ℕ) → PendingRead first last
  pub configurations : ConfigPacked
  pub commands : CommandPacked
  pub commands_read : (first last : ℕ) → CommandRead first last
