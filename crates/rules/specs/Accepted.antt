-- A command in DNLOAD data, a sentence each: what stops it, in 01's order, and what it sets where nothing does. For every board and every
-- command. Proved in proofs/AcceptedHolds.antt.
use Rattle.std.specs.Prelude.{◌≡◌, true, false, List, [], ℕ, ◌+◌, ◌*◌, ◌≤◌, ◌<◌, get_or, None, Some}
use Rattle.memory.specs.Memory.{flash_address}
use Rattle.config.specs.Bytes.{config}
use Rattle.config.specs.Level.{level}
use Rattle.config.specs.declared.config.Config.{Config}
use Rattle.command.specs.Form.{form}
use Rattle.command.specs.Ranges.{AddressRight}
use Rattle.command.specs.Transfer.{bad_length}
use Rattle.command.specs.declared.command.Command.{Command}
use Rattle.command.specs.declared.command.Command.TheVariants.{ProgramFlash, ProgramEeprom, Read, BlankCheck, EraseBlock, EraseChip, WriteByte, WriteHsb}
use Rattle.command.specs.declared.command.Command.TheVariants.{StartReset, StartAt, ReadVersion, ReadByte, ReadHsb}
use Rattle.rules.specs.Session.{session, Pending, Nothing, MemoryRead, BlankReport, OneByte, Start, Reset, AtAddress}
use Rattle.rules.specs.Levels.{level_status}
use Rattle.rules.specs.Result.{Board, Result, reply, Done}
use Rattle.rules.specs.Commands.{obey_form}
use Rattle.rules.specs.Step.{ask}
use Rattle.rules.specs.States.{Stalls}
use Rattle.rules.specs.Effects.{Commands}

-- ---- the order

-- "A status above is set with state 10 and nothing pending, and nothing else moves."
abbrev pub status_set : Board → ℕ → Result
status_set b status = reply b.config Done [] (session 10 status Nothing b.session.busy)

-- "Order: form, level, address (.. 08h), and for program at last its whole length."; r the answer to the data d
pub record Order (b : Board) (d : List ℕ) (r : Result) : Type 0 where
  pub unlisted : form d ≡ None → Stalls b r
  pub forbidden : (k : Command) (status : ℕ) → form d ≡ Some k → level_status k (level b.config) ≡ status → (status ≡ 0x00 → ⊥) → r ≡ status_set b status
  pub bad_address_lem : (k : Command) → form d ≡ Some k → level_status k (level b.config) ≡ 0x00 → (AddressRight k → ⊥) → r ≡ status_set b 0x08
  pub bad_length_lem : (k : Command) → form d ≡ Some k → level_status k (level b.config) ≡ 0x00 → AddressRight k → bad_length k d ≡ true → Stalls b r
  pub accepted : (k : Command) → form d ≡ Some k → level_status k (level b.config) ≡ 0x00 → AddressRight k → bad_length k d ≡ false → r.accepted ≡ Some k

abbrev pub CommandOrder : Type 0
CommandOrder = (b : Board) (setup d : List ℕ) (n : ℕ) → Commands b setup d n → Order b d (ask b setup d n)

-- the same of every board and all data, whether a request could bring them or not
abbrev pub FormsObeyed : Type 0
FormsObeyed = (b : Board) (d : List ℕ) → Order b d (obey_form b (form d) d)

-- ---- an accepted command

-- "An accepted command sets status 00h .. and what is pending (nothing unless it reads or starts)."
abbrev pub Pends : Pending → ℕ → Pending → Type 0
Pends p status pending = (status ≡ 0x00) × (pending ≡ p)

-- "A blank check that meets a byte not FFh sets 05h with state 3 and the first such address pending.", of the range a to e of a flash
pub record Checked (a e : ℕ) (flash : List ℕ) (status : ℕ) (pending : Pending) : Type 0 where
  pub blank : ((i : ℕ) → a ≤ i → i ≤ e → get_or flash i 0 ≡ 0xFF) → Pends Nothing status pending
  pub used : (x : ℕ) → a ≤ x → x ≤ e → ((i : ℕ) → a ≤ i → i < x → get_or flash i 0 ≡ 0xFF) → (get_or flash x 0 ≡ 0xFF → ⊥)
      → (status ≡ 0x05) × (pending ≡ BlankReport (flash_address x))

-- "one byte, its value fixed when the command is accepted": that of "index 00h to 06h", and of "30h, 31h, 60h, 61h" "manufacturer 58h, family
-- D7h, product F7h, revision DFh"
pub record ByteOf (i : ℕ) (c : Config) (pending : Pending) : Type 0 where
  pub bsb : i ≡ 0x00 → pending ≡ OneByte c.bsb
  pub sbv : i ≡ 0x01 → pending ≡ OneByte c.sbv
  pub p1cf : i ≡ 0x02 → pending ≡ OneByte c.p1cf
  pub p3cf : i ≡ 0x03 → pending ≡ OneByte c.p3cf
  pub p4cf : i ≡ 0x04 → pending ≡ OneByte c.p4cf
  pub ssb : i ≡ 0x05 → pending ≡ OneByte c.ssb
  pub eb : i ≡ 0x06 → pending ≡ OneByte c.eb
  pub manufacturer : i ≡ 0x30 → pending ≡ OneByte 0x58
  pub family : i ≡ 0x31 → pending ≡ OneByte 0xD7
  pub product : i ≡ 0x60 → pending ≡ OneByte 0xF7
  pub revision : i ≡ 0x61 → pending ≡ OneByte 0xDF

-- "a start with its kind and address, 0000h for a reset"; "bootloader version 12h"
abbrev pub Sets : Command → Board → ℕ → Pending → Type 0
Sets (ProgramFlash a e) b = Pends Nothing
Sets (ProgramEeprom a e) b = Pends Nothing
Sets (Read r) b = Pends (MemoryRead r)
Sets (BlankCheck a e) b = Checked a.0 e.0 b.flash
Sets (EraseBlock k) b = Pends Nothing
Sets EraseChip b = Pends Nothing
Sets (WriteByte i v) b = Pends Nothing
Sets (WriteHsb v) b = Pends Nothing
Sets StartReset b = Pends (Start Reset (flash_address 0x0000))
Sets (StartAt a) b = Pends (Start AtAddress a)
Sets ReadVersion b = Pends (OneByte 0x12)
Sets (ReadByte i) b = λ status pending. (status ≡ 0x00) × ByteOf i b.config pending
Sets ReadHsb b = Pends (OneByte b.config.hsb)

-- "04h, 01h, index 00h-06h, value | write configuration byte": one of the eight bytes, and the others stay
pub record ByteWritten (i v : ℕ) (c after : Config) : Type 0 where
  pub bsb : i ≡ 0x00 → after ≡ config v c.sbv c.p1cf c.p3cf c.p4cf c.ssb c.eb c.hsb
  pub sbv : i ≡ 0x01 → after ≡ config c.bsb v c.p1cf c.p3cf c.p4cf c.ssb c.eb c.hsb
  pub p1cf : i ≡ 0x02 → after ≡ config c.bsb c.sbv v c.p3cf c.p4cf c.ssb c.eb c.hsb
  pub p3cf : i ≡ 0x03 → after ≡ config c.bsb c.sbv c.p1cf v c.p4cf c.ssb c.eb c.hsb
  pub p4cf : i ≡ 0x04 → after ≡ config c.bsb c.sbv c.p1cf c.p3cf v c.ssb c.eb c.hsb
  pub ssb : i ≡ 0x05 → after ≡ config c.bsb c.sbv c.p1cf c.p3cf c.p4cf v c.eb c.hsb
  pub eb : i ≡ 0x06 → after ≡ config c.bsb c.sbv c.p1cf c.p3cf c.p4cf c.ssb v c.hsb

-- "write HSB: the high four bits change, the low four stay", and so do the other bytes
abbrev pub HsbWritten : ℕ → Config → Config → Type 0
HsbWritten v c after = (high x y low : ℕ) → x < 16 → low < 16 → v ≡ high * 16 + x → c.hsb ≡ y * 16 + low
    → after ≡ config c.bsb c.sbv c.p1cf c.p3cf c.p4cf c.ssb c.eb (high * 16 + low)

-- "Full chip erase sets flash to FFh and BSB FFh, SBV FCh, SSB FFh; EEPROM and the other bytes stay."; no other command writes a byte
abbrev pub Configures : Command → Config → Config → Type 0
Configures (ProgramFlash a e) c after = after ≡ c
Configures (ProgramEeprom a e) c after = after ≡ c
Configures (Read r) c after = after ≡ c
Configures (BlankCheck a e) c after = after ≡ c
Configures (EraseBlock k) c after = after ≡ c
Configures EraseChip c after = after ≡ config 0xFF 0xFC c.p1cf c.p3cf c.p4cf 0xFF c.eb c.hsb
Configures (WriteByte i v) c after = ByteWritten i v c after
Configures (WriteHsb v) c after = HsbWritten v c after
Configures StartReset c after = after ≡ c
Configures (StartAt a) c after = after ≡ c
Configures ReadVersion c after = after ≡ c
Configures (ReadByte i) c after = after ≡ c
Configures ReadHsb c after = after ≡ c

-- "state 3", and nothing is sent
pub record Accepts (b : Board) (k : Command) (r : Result) : Type 0 where
  pub nothing_sent : r.sent ≡ []
  pub in_state_3 : r.session.state ≡ 3
  pub sets : Sets k b r.session.status r.session.pending
  pub configures : Configures k b.config r.config

abbrev pub AcceptedSets : Type 0
AcceptedSets = (b : Board) (setup d : List ℕ) (n : ℕ) (k : Command) → (ask b setup d n).accepted ≡ Some k → Accepts b k (ask b setup d n)
