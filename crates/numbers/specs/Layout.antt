-- How a session, a configuration, an outcome and a command are packed into numbers of 64 bits. Assumes nothing: these are definitions.
use Rattle.std.specs.Prelude.{if◌then◌else◌, ℕ, ◌+◌, ◌*◌, ◌/◌, ◌%◌, eqb}
use Rattle.memory.specs.Memory.{flash_address, eeprom_address}
use Rattle.memory.specs.declared.address.FlashAddress.{FlashAddress}
use Rattle.memory.specs.declared.address.Range.{Range}
use Rattle.memory.specs.declared.address.Range.TheVariants.{Flash, Eeprom}
use Rattle.memory.specs.declared.address.Block.{Block}
use Rattle.memory.specs.declared.address.Block.TheVariants.{Low, Middle, High}
use Rattle.config.specs.declared.config.Config.{Config}
use Rattle.command.specs.declared.command.Command.{Command}
use Rattle.command.specs.declared.command.Command.TheVariants.{ProgramFlash, ProgramEeprom, Read, BlankCheck, EraseBlock, EraseChip, WriteByte, WriteHsb}
use Rattle.command.specs.declared.command.Command.TheVariants.{StartReset, StartAt, ReadVersion, ReadByte, ReadHsb}
use Rattle.rules.specs.Session.{session}
use Rattle.rules.specs.Result.{outcome_number, outcome_value}
use Rattle.rules.specs.declared.session.Session.{Session}
use Rattle.rules.specs.declared.session.Pending.{Pending}
use Rattle.rules.specs.declared.session.Pending.TheVariants.{Nothing, MemoryRead, BlankReport, OneByte, Start}
use Rattle.rules.specs.declared.session.StartKind.{StartKind}
use Rattle.rules.specs.declared.session.StartKind.TheVariants.{Reset, AtAddress}
use Rattle.rules.specs.declared.answer.Outcome.{Outcome}
use Rattle.rules.specs.declared.answer.Outcome.TheVariants.{Done, Stall, Started, Refused}

-- ---- four words of 16 bits in a number, the lowest first

abbrev pub packed : ℕ → ℕ → ℕ → ℕ → ℕ
packed a b c d = a + 0x10000 * b + 0x100000000 * c + 0x1000000000000 * d

abbrev pub word0 : ℕ → ℕ
word0 n = n % 0x10000

abbrev pub word1 : ℕ → ℕ
word1 n = n / 0x10000 % 0x10000

abbrev pub word2 : ℕ → ℕ
word2 n = n / 0x100000000 % 0x10000

abbrev pub word3 : ℕ → ℕ
word3 n = n / 0x1000000000000 % 0x10000

-- two bytes in a word, the lowest first
abbrev pub low_byte : ℕ → ℕ
low_byte w = w % 256

abbrev pub high_byte : ℕ → ℕ
high_byte w = w / 256 % 256

abbrev pub two_bytes : ℕ → ℕ → ℕ
two_bytes low high = low + 256 * high

-- ---- a session: the first word is state and status, the second the kind of what is pending, the others its numbers. Its busy count
-- (P5 of 02) has no room there and is a number of its own, as it stands

-- kind 0 is nothing, 1 a read of flash and 2 of EEPROM with start and end, 3 a blank report, 4 one byte, 5 a start by reset, 6 a
-- start at an address
abbrev pub pack_read : ℕ → Range → ℕ
pack_read head (Flash a e) = packed head 1 a.0 e.0
pack_read head (Eeprom a e) = packed head 2 a.0 e.0

abbrev pub pack_start : ℕ → StartKind → FlashAddress → ℕ
pack_start head Reset a = packed head 5 a.0 0
pack_start head AtAddress a = packed head 6 a.0 0

abbrev pub pack_pending : ℕ → Pending → ℕ
pack_pending head Nothing = packed head 0 0 0
pack_pending head (MemoryRead r) = pack_read head r
pack_pending head (BlankReport a) = packed head 3 a.0 0
pack_pending head (OneByte v) = packed head 4 v 0
pack_pending head (Start k a) = pack_start head k a

abbrev pub pack_session : Session → ℕ
pack_session s = pack_pending (two_bytes s.state s.status) s.pending

-- any other kind counts as nothing, and a number that a kind has no use for is not looked at
unfoldable pub pending_of : ℕ → ℕ → ℕ → Pending
pending_of kind first last =
    if eqb kind 1 then MemoryRead (Flash (flash_address first) (flash_address last)) else
    if eqb kind 2 then MemoryRead (Eeprom (eeprom_address first) (eeprom_address last)) else
    if eqb kind 3 then BlankReport (flash_address first) else
    if eqb kind 4 then OneByte (low_byte first) else
    if eqb kind 5 then Start Reset (flash_address first) else
    if eqb kind 6 then Start AtAddress (flash_address first) else Nothing

abbrev pub session_of : ℕ → ℕ → Session
session_of n busy = session (low_byte (word0 n)) (high_byte (word0 n)) (pending_of (word1 n) (word2 n) (word3 n)) busy

-- ---- a configuration: its eight bytes, BSB the lowest, HSB the highest

abbrev pub pack_config : Config → ℕ
pack_config c = packed (two_bytes c.bsb c.sbv) (two_bytes c.p1cf c.p3cf) (two_bytes c.p4cf c.ssb) (two_bytes c.eb c.hsb)

abbrev pub config_of : ℕ → Config
config_of n = record {
  bsb = low_byte (word0 n);
  sbv = high_byte (word0 n);
  p1cf = low_byte (word1 n);
  p3cf = high_byte (word1 n);
  p4cf = low_byte (word2 n);
  ssb = high_byte (word2 n);
  eb = low_byte (word3 n);
  hsb = high_byte (word3 n);
}

-- ---- an outcome: 0 done, 1 stall, 2 a start by reset and 3 at an address with its address, 4 refused with its number

abbrev pub pack_outcome : Outcome → ℕ
pack_outcome o = packed (outcome_number o) (outcome_value o) 0 0

-- "session .. configuration .. stay": the number of a session or a configuration after an outcome. Refused, it stays as it was lent, also
-- in bits that stand for nothing
abbrev pub number_after : Outcome → ℕ → ℕ → ℕ
number_after Done lent new = new
number_after Stall lent new = new
number_after (Started k a) lent new = new
number_after (Refused n) lent new = lent

-- ---- a command: its kind, then its numbers

-- a read of flash is kind 2 and one of EEPROM kind 3, with start and end
abbrev pub pack_read_command : Range → ℕ
pack_read_command (Flash a e) = packed 2 a.0 e.0 0
pack_read_command (Eeprom a e) = packed 3 a.0 e.0 0

-- the three blocks are kinds 5, 6 and 7
abbrev pub pack_block : Block → ℕ
pack_block Low = packed 5 0 0 0
pack_block Middle = packed 6 0 0 0
pack_block High = packed 7 0 0 0

abbrev pub pack_command : Command → ℕ
pack_command (ProgramFlash a e) = packed 0 a.0 e.0 0
pack_command (ProgramEeprom a e) = packed 1 a.0 e.0 0
pack_command (Read r) = pack_read_command r
pack_command (BlankCheck a e) = packed 4 a.0 e.0 0
pack_command (EraseBlock k) = pack_block k
pack_command EraseChip = packed 8 0 0 0
pack_command (WriteByte i v) = packed 9 i v 0
pack_command (WriteHsb v) = packed 10 v 0 0
pack_command StartReset = packed 11 0 0 0
pack_command (StartAt a) = packed 12 a.0 0 0
pack_command ReadVersion = packed 13 0 0 0
pack_command (ReadByte i) = packed 14 i 0 0
pack_command ReadHsb = packed 15 0 0 0

-- any other kind counts as 15, and a number that a kind has no use for is not looked at
unfoldable pub command_for : ℕ → ℕ → ℕ → Command
command_for kind first last =
    if eqb kind 0 then ProgramFlash (flash_address first) (flash_address last) else
    if eqb kind 1 then ProgramEeprom (eeprom_address first) (eeprom_address last) else
    if eqb kind 2 then Read (Flash (flash_address first) (flash_address last)) else
    if eqb kind 3 then Read (Eeprom (eeprom_address first) (eeprom_address last)) else
    if eqb kind 4 then BlankCheck (flash_address first) (flash_address last) else
    if eqb kind 5 then EraseBlock Low else
    if eqb kind 6 then EraseBlock Middle else
    if eqb kind 7 then EraseBlock High else
    if eqb kind 8 then EraseChip else
    if eqb kind 9 then WriteByte (low_byte first) (low_byte last) else
    if eqb kind 10 then WriteHsb (low_byte first) else
    if eqb kind 11 then StartReset else
    if eqb kind 12 then StartAt (flash_address first) else
    if eqb kind 13 then ReadVersion else
    if eqb kind 14 then ReadByte (low_byte first) else ReadHsb

abbrev pub command_of : ℕ → Command
command_of n = command_for (word0 n) (word1 n) (word2 n)
