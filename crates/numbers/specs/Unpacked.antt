-- What is packed is unpacked again, a session by its number and its busy count, so that no two sessions have both alike, and no two
-- configurations or commands one number. The statements are proved in proofs/LayoutHolds.antt.
use Rattle.std.specs.Prelude.{◌≡◌, ℕ, ◌<◌}
use Rattle.memory.specs.declared.address.Range.{Range}
use Rattle.memory.specs.Memory.{range_start, range_end}
use Rattle.config.specs.declared.config.Config.{Config}
use Rattle.command.specs.declared.command.Command.{Command}
use Rattle.command.specs.declared.command.Command.TheVariants.{ProgramFlash, ProgramEeprom, Read, BlankCheck, EraseBlock, EraseChip, WriteByte, WriteHsb}
use Rattle.command.specs.declared.command.Command.TheVariants.{StartReset, StartAt, ReadVersion, ReadByte, ReadHsb}
use Rattle.rules.specs.declared.session.Session.{Session}
use Rattle.rules.specs.declared.session.Pending.{Pending}
use Rattle.rules.specs.declared.session.Pending.TheVariants.{Nothing, MemoryRead, BlankReport, OneByte, Start}
use Rattle.numbers.specs.Layout.{pack_session, session_of, pack_config, config_of, pack_command, command_of}

-- a byte, a word of 16 bits, the two words of a range
abbrev pub Byte : ℕ → Type 0
Byte n = n < 256

abbrev pub Word : ℕ → Type 0
Word n = n < 0x10000

abbrev pub Words : Range → Type 0
Words r = Word (range_start r) × Word (range_end r)

-- the numbers of a session, of a configuration and of a command are bytes and words, as the code's types have them; the busy count is not
-- packed, and nothing is asked of it
abbrev pub PendingFits : Pending → Type 0
PendingFits Nothing = Unit {0}
PendingFits (MemoryRead r) = Words r
PendingFits (BlankReport a) = Word a.0
PendingFits (OneByte v) = Byte v
PendingFits (Start k a) = Word a.0

pub record SessionFits (s : Session) : Type 0 where
  pub state : Byte s.state
  pub status : Byte s.status
  pub pending : PendingFits s.pending

pub record ConfigFits (c : Config) : Type 0 where
  pub bsb : Byte c.bsb
  pub sbv : Byte c.sbv
  pub p1cf : Byte c.p1cf
  pub p3cf : Byte c.p3cf
  pub p4cf : Byte c.p4cf
  pub ssb : Byte c.ssb
  pub eb : Byte c.eb
  pub hsb : Byte c.hsb

abbrev pub CommandFits : Command → Type 0
CommandFits (ProgramFlash a e) = Word a.0 × Word e.0
CommandFits (ProgramEeprom a e) = Word a.0 × Word e.0
CommandFits (Read r) = Words r
CommandFits (BlankCheck a e) = Word a.0 × Word e.0
CommandFits (EraseBlock k) = Unit {0}
CommandFits EraseChip = Unit {0}
CommandFits (WriteByte i v) = Byte i × Byte v
CommandFits (WriteHsb v) = Byte v
CommandFits StartReset = Unit {0}
CommandFits (StartAt a) = Word a.0
CommandFits ReadVersion = Unit {0}
CommandFits (ReadByte i) = Byte i
CommandFits ReadHsb = Unit {0}

abbrev pub SessionKept : Type 0
SessionKept = (s : Session) → SessionFits s → session_of (pack_session s) s.busy ≡ s

abbrev pub ConfigKept : Type 0
ConfigKept = (c : Config) → ConfigFits c → config_of (pack_config c) ≡ c

abbrev pub CommandKept : Type 0
CommandKept = (k : Command) → CommandFits k → command_of (pack_command k) ≡ k
