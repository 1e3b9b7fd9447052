-- 01's "address (backward, outside, over 1,024 bytes except blank check, or start above 7FFFh: 08h)", in numbers, beside the definition of
-- `bad_address`. Proved in proofs/RangesHold.antt.
use Rattle.std.specs.Prelude.{◌≡◌, Bool, false, ℕ, ◌+◌, ◌≤◌, ◌<◌}
use Rattle.memory.specs.declared.address.FlashAddress.{FlashAddress}
use Rattle.memory.specs.declared.address.Range.{Range}
use Rattle.memory.specs.declared.address.Range.TheVariants.{Flash, Eeprom}
use Rattle.command.specs.Form.{Command, ProgramFlash, ProgramEeprom, Read, BlankCheck, EraseBlock, EraseChip, WriteByte, WriteHsb}
use Rattle.command.specs.Form.{StartReset, StartAt, ReadVersion, ReadByte, ReadHsb}
use Rattle.command.specs.Address.{bad_address, bad_range, past_flash}

-- the addresses a to e of a memory with this last address, neither "backward" nor "outside" nor "over 1,024 bytes"
pub record Fits (last a e : ℕ) : Type 0 where
  pub forward : a ≤ e
  pub inside : e ≤ last
  pub short : e < a + 1024

-- flash is "0000h to 7FFFh", EEPROM "0000h to 03FFh"
abbrev pub RangeRight : Range → Type 0
RangeRight (Flash a e) = Fits 0x7FFF a.0 e.0
RangeRight (Eeprom a e) = Fits 0x03FF a.0 e.0

abbrev pub AddressRight : Command → Type 0
AddressRight (ProgramFlash a e) = Fits 0x7FFF a.0 e.0
AddressRight (ProgramEeprom a e) = Fits 0x03FF a.0 e.0
AddressRight (Read r) = RangeRight r
AddressRight (BlankCheck a e) = (a.0 ≤ e.0) × (e.0 ≤ 0x7FFF)
AddressRight (EraseBlock k) = Unit {0}
AddressRight EraseChip = Unit {0}
AddressRight (WriteByte i v) = Unit {0}
AddressRight (WriteHsb v) = Unit {0}
AddressRight StartReset = Unit {0}
AddressRight (StartAt a) = a.0 ≤ 0x7FFF
AddressRight ReadVersion = Unit {0}
AddressRight (ReadByte i) = Unit {0}
AddressRight ReadHsb = Unit {0}

-- a test that says "bad" exactly where this is not so
pub record Unless (bad : Bool) (right : Type 0) : Type 0 where
  pub told : bad ≡ false → right
  pub passes : right → bad ≡ false

pub record AddressesTold : Type 0 where
  pub commands : (k : Command) → Unless (bad_address k) (AddressRight k)
  pub ranges : (r : Range) → Unless (bad_range r) (RangeRight r)
  pub addresses : (a : FlashAddress) → Unless (past_flash a) (a.0 ≤ 0x7FFF)
