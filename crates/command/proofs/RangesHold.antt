-- What gives 08h, in numbers: both memories by one law over the last address.
-- Assumes nothing.
use mathlib.Core.Path.{refl}
use mathlib.Core.Bool.{false}
use Prim.Native.Nat.{ℕ, ◌+◌, ◌≤◌}
use native.Mathlib.Omega.{arith}
use lib.Dec.{ltb}
use borrow.Author.Tests.{lt-leb, le-ltb, ltb-false}
use Rattle.words.specs.Words.{count}
use Rattle.words.proofs.WordsLaws.{or_false}
use Rattle.memory.specs.declared.address.FlashAddress.{FlashAddress}
use Rattle.memory.specs.declared.address.Range.{Range}
use Rattle.memory.specs.declared.address.Range.TheVariants.{Flash, Eeprom}
use Rattle.command.specs.Form.{Command, ProgramFlash, ProgramEeprom, Read, BlankCheck, EraseBlock, EraseChip, WriteByte, WriteHsb, StartReset, StartAt}
use Rattle.command.specs.Form.{ReadVersion, ReadByte, ReadHsb}
use Rattle.command.specs.Address.{bad_address, bad_ends, bad_range, bad_check, past_flash}
use Rattle.command.specs.Ranges.{Fits, RangeRight, AddressRight, Unless, AddressesTold}
use Rattle.command.proofs.AddressLaws.{bad_ends_good}

fits_told : (last a e : ℕ) → Unless (bad_ends (last + 1) a e) (Fits last a e)
fits_told last a e = record {
  told = λ q.
      let g = bad_ends_good (last + 1) a e q in
      let i = g.inside in
      let s = g.short in
      record { forward = g.forward; inside = omega arith; short = omega arith };
  passes = λ f.
      let w = f.forward in
      let i = f.inside in
      let s = f.short in
      rw (le-ltb e a w, lt-leb (last + 1) e (omega arith), le-ltb 1024 (count a e) (omega arith));
}

pub range_told : (r : Range) → Unless (bad_range r) (RangeRight r)
range_told (Flash a e) = fits_told 0x7FFF a.0 e.0
range_told (Eeprom a e) = fits_told 0x03FF a.0 e.0

pub inside_told : (a : FlashAddress) → Unless (past_flash a) (a.0 ≤ 0x7FFF)
inside_told a = record { told = ltb-false 0x7FFF a.0; passes = le-ltb 0x7FFF a.0 }

check_told : (a e : FlashAddress) → Unless (bad_check a e) ((a.0 ≤ e.0) × (e.0 ≤ 0x7FFF))
check_told a e = record {
  told = λ q. let o = or_false (ltb e.0 a.0) (past_flash e) q in (ltb-false e.0 a.0 o.0, ltb-false 0x7FFF e.0 o.1);
  passes = λ h. rw (le-ltb e.0 a.0 h.0, le-ltb 0x7FFF e.0 h.1);
}

-- a command that has no address
free : Unless false (Unit {0})
free = record { told = λ q. tt; passes = λ t. refl }

pub address_told : (k : Command) → Unless (bad_address k) (AddressRight k)
address_told (ProgramFlash a e) = fits_told 0x7FFF a.0 e.0
address_told (ProgramEeprom a e) = fits_told 0x03FF a.0 e.0
address_told (Read r) = range_told r
address_told (BlankCheck a e) = check_told a e
address_told (EraseBlock k) = free
address_told EraseChip = free
address_told (WriteByte i v) = free
address_told (WriteHsb v) = free
address_told StartReset = free
address_told (StartAt a) = inside_told a
address_told ReadVersion = free
address_told (ReadByte i) = free
address_told ReadHsb = free

pub addresses_told : AddressesTold
addresses_told = record { commands = address_told; ranges = range_told; addresses = inside_told }
