-- The tables of the header for C, row by row, each with a number. Proved in proofs/TablesHold.antt.
use Rattle.std.specs.Prelude.{◌≡◌, ℕ, ◌+◌, ◌*◌, ◌/◌, ◌%◌, ◌<◌}
use Rattle.memory.specs.Memory.{flash_address, eeprom_address}
use Rattle.memory.specs.declared.address.FlashAddress.{FlashAddress}
use Rattle.memory.specs.declared.address.Range.TheVariants.{Flash, Eeprom}
use Rattle.memory.specs.declared.address.Block.TheVariants.{Low, Middle, High}
use Rattle.config.specs.declared.config.Config.{Config}
use Rattle.command.specs.declared.command.Command.{Command}
use Rattle.command.specs.declared.command.Command.TheVariants.{ProgramFlash, ProgramEeprom, Read, BlankCheck, EraseBlock, EraseChip, WriteByte, WriteHsb}
use Rattle.command.specs.declared.command.Command.TheVariants.{StartReset, StartAt, ReadVersion, ReadByte, ReadHsb}
use Rattle.rules.specs.Session.{session}
use Rattle.rules.specs.declared.session.Pending.{Pending}
use Rattle.rules.specs.declared.session.Pending.TheVariants.{Nothing, MemoryRead, BlankReport, OneByte, Start}
use Rattle.rules.specs.declared.session.StartKind.{StartKind}
use Rattle.rules.specs.declared.session.StartKind.TheVariants.{Reset, AtAddress}
use Rattle.rules.specs.declared.answer.Outcome.TheVariants.{Done, Stall, Started, Refused}
use Rattle.numbers.specs.Layout.{pack_session, session_of, pending_of, pack_config, config_of, pack_outcome, number_after}
use Rattle.numbers.specs.Layout.{pack_command, command_of, command_for}

-- state 05h, status 03h and this pending is the number, both ways, whatever the busy count beside it
abbrev pub Session : Pending → ℕ → Type 0
Session p n = (busy : ℕ) → (pack_session (session 0x05 0x03 p busy) ≡ n) × (session_of n busy ≡ session 0x05 0x03 p busy)

-- the command is the number, both ways
abbrev pub CommandNumber : Command → ℕ → Type 0
CommandNumber k n = (pack_command k ≡ n) × (command_of n ≡ k)

-- BSB 11h, SBV 22h, P1_CF 33h, P3_CF 44h, P4_CF 55h, SSB 66h, EB 77h, HSB 88h
abbrev pub some_config : Config
some_config = record { bsb = 0x11; sbv = 0x22; p1cf = 0x33; p3cf = 0x44; p4cf = 0x55; ssb = 0x66; eb = 0x77; hsb = 0x88 }

pub record Tables : Type 0 where
  -- a session: state, status, kind 0 to 6, and the numbers of the kind
  pub nothing : Session Nothing 0x0000000000000305
  pub read_of_flash : Session (MemoryRead (Flash (flash_address 0x1234) (flash_address 0x5678))) 0x5678123400010305
  pub read_of_eeprom : Session (MemoryRead (Eeprom (eeprom_address 0x0012) (eeprom_address 0x0345))) 0x0345001200020305
  pub blank_report : Session (BlankReport (flash_address 0x1234)) 0x0000123400030305
  pub one_byte : Session (OneByte 0xAB) 0x000000AB00040305
  pub pending_reset : Session (Start Reset (flash_address 0x1234)) 0x0000123400050305
  pub pending_start : Session (Start AtAddress (flash_address 0x1234)) 0x0000123400060305
  -- "a kind of what is pending that has no row counts as 0"; "Of a value that is a byte the low 8 bits count."
  pub no_kind : (kind first last : ℕ) → 6 < kind → pending_of kind first last ≡ Nothing
  pub pending_alone : (first last : ℕ) → (pending_of 3 first last ≡ BlankReport (flash_address first)) × (pending_of 4 first last ≡ OneByte (first % 256))
  pub starts_alone : (first last : ℕ)
      → (pending_of 5 first last ≡ Start Reset (flash_address first)) × (pending_of 6 first last ≡ Start AtAddress (flash_address first))
  pub low_8_bits : (busy : ℕ) → session_of 0xFFFF12AB00040305 busy ≡ session 0x05 0x03 (OneByte 0xAB) busy
  pub four_words : (n busy : ℕ)
      → session_of n busy ≡ session (n % 0x10000 % 256) (n % 0x10000 / 256 % 256) (pending_of (n / 0x10000 % 0x10000) (n / 0x100000000 % 0x10000)
      (n / 0x1000000000000 % 0x10000)) busy
  -- a configuration, BSB the lowest byte
  pub config : (pack_config some_config ≡ 0x8877665544332211) × (config_of 0x8877665544332211 ≡ some_config)
  -- a command: kind 0 to 15, and its numbers
  pub program_flash_lem : CommandNumber (ProgramFlash (flash_address 0x1234) (flash_address 0x5678)) 0x0000567812340000
  pub program_eeprom_lem : CommandNumber (ProgramEeprom (eeprom_address 0x0012) (eeprom_address 0x0345)) 0x0000034500120001
  pub read_flash : CommandNumber (Read (Flash (flash_address 0x1234) (flash_address 0x5678))) 0x0000567812340002
  pub read_eeprom : CommandNumber (Read (Eeprom (eeprom_address 0x0012) (eeprom_address 0x0345))) 0x0000034500120003
  pub blank_check : CommandNumber (BlankCheck (flash_address 0x1234) (flash_address 0x5678)) 0x0000567812340004
  pub erase_0000h : CommandNumber (EraseBlock Low) 0x0000000000000005
  pub erase_2000h : CommandNumber (EraseBlock Middle) 0x0000000000000006
  pub erase_4000h : CommandNumber (EraseBlock High) 0x0000000000000007
  pub erase_chip : CommandNumber EraseChip 0x0000000000000008
  pub write_byte : CommandNumber (WriteByte 0x05 0xFC) 0x000000FC00050009
  pub write_hsb : CommandNumber (WriteHsb 0x4F) 0x00000000004F000A
  pub start_by_reset : CommandNumber StartReset 0x000000000000000B
  pub start_at : CommandNumber (StartAt (flash_address 0x1234)) 0x000000001234000C
  pub read_version : CommandNumber ReadVersion 0x000000000000000D
  pub read_byte : CommandNumber (ReadByte 0x61) 0x000000000061000E
  pub read_hsb_lem : CommandNumber ReadHsb 0x000000000000000F
  -- numbers that a kind has not are not looked at
  pub blocks_alone : (first last : ℕ)
      → (command_for 5 first last ≡ EraseBlock Low) × (command_for 6 first last ≡ EraseBlock Middle) × (command_for 7 first last ≡ EraseBlock High)
  pub kind_alone : (first last : ℕ)
      → (command_for 8 first last ≡ EraseChip) × (command_for 11 first last ≡ StartReset) × (command_for 13 first last ≡ ReadVersion)
  pub low_bytes : (first last : ℕ) → (command_for 9 first last ≡ WriteByte (first % 256) (last % 256))
      × (command_for 10 first last ≡ WriteHsb (first % 256)) × (command_for 14 first last ≡ ReadByte (first % 256))
  pub start_alone : (first last : ℕ) → command_for 12 first last ≡ StartAt (flash_address first)
  pub three_words : (n : ℕ) → command_of n ≡ command_for (n % 0x10000) (n / 0x10000 % 0x10000) (n / 0x100000000 % 0x10000)
  -- kind 15, and "a kind of command that has no row as 15"
  pub no_command : (kind first last : ℕ) → 14 < kind → command_for kind first last ≡ ReadHsb
  -- an outcome: its kind, and from bit 16 on the address of a start or the number of a refusal, of every address and number
  pub done : pack_outcome Done ≡ 0x0000000000000000
  pub stall : pack_outcome Stall ≡ 0x0000000000000001
  pub started_by_reset : (a : FlashAddress) → pack_outcome (Started Reset a) ≡ 0x0000000000000002 + 0x10000 * a.0
  pub started_at : (a : FlashAddress) → pack_outcome (Started AtAddress a) ≡ 0x0000000000000003 + 0x10000 * a.0
  pub refused : (k : ℕ) → pack_outcome (Refused k) ≡ 0x0000000000000004 + 0x10000 * k
  -- "Refused, .. all else stays as it was, bit for bit.", and otherwise it is the new number
  pub stays : (n lent new : ℕ) → number_after (Refused n) lent new ≡ lent
  pub new_done : (lent new : ℕ) → number_after Done lent new ≡ new
  pub new_stall : (lent new : ℕ) → number_after Stall lent new ≡ new
  pub new_start : (k : StartKind) (a : FlashAddress) (lent new : ℕ) → number_after (Started k a) lent new ≡ new
