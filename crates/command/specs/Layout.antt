-- 01's program transfer, and the order of the reader's answers, beside the definitions. Proved in proofs/LayoutHolds.antt.
use Rattle.std.specs.Prelude.{◌≡◌, true, false, List, ◌++◌, ℕ, ◌+◌, ◌%◌, length, None, Some, Ok, Err}
use Rattle.words.specs.Words.{count}
use Rattle.memory.specs.declared.address.FlashAddress.{FlashAddress}
use Rattle.memory.specs.declared.address.EepromAddress.{EepromAddress}
use Rattle.command.specs.Form.{form, Command, ProgramFlash, ProgramEeprom}
use Rattle.command.specs.Transfer.{laid, filler_size, suffix_size, padding, body_place, transfer_of, body_of, suffix_of, bad_length}
use Rattle.command.specs.Reader.{Parts, Stall, BadAddress, parts_of, read_command, fault_number, reading_status}
use Rattle.command.specs.Ranges.{AddressRight}

-- the commands that program, with their first address and their last
pub data Programs : Command → ℕ → ℕ → Type 0 where
  flash : (a e : FlashAddress) → Programs (ProgramFlash a e) a.0 e.0
  eeprom : (a e : EepromAddress) → Programs (ProgramEeprom a e) a.0 e.0

-- "32 bytes of command .., X pad bytes, the n bytes, 16 suffix bytes", "X being start mod 32"; "a range includes both ends"
pub record Laid (a e : ℕ) (command pad new suffix : List ℕ) : Type 0 where
  pub command_size_lem : length command ≡ 32
  pub pad_size : length pad ≡ a % 32
  pub new_size : a + length new ≡ e + 1
  pub suffix_size_lem : length suffix ≡ 16

-- such data has the right length, and its bytes and its suffix are found in it
pub record Found (k : Command) (a e : ℕ) (command pad new suffix : List ℕ) : Type 0 where
  pub right_length : bad_length k (command ++ pad ++ new ++ suffix) ≡ false
  pub body : body_of a e (command ++ pad ++ new ++ suffix) ≡ new
  pub rest : suffix_of a e (command ++ pad ++ new ++ suffix) ≡ suffix
  pub body_place_lem : (parts_of k (command ++ pad ++ new ++ suffix)).body ≡ 32 + a % 32
  pub suffix_place_lem : (parts_of k (command ++ pad ++ new ++ suffix)).suffix ≡ 32 + a % 32 + length new

-- a command whose data is d carries no bytes: both places are the data's end
pub record CarriesNone (k : Command) (d : List ℕ) : Type 0 where
  pub right_length : bad_length k d ≡ false
  pub body_place_lem : (parts_of k d).body ≡ length d
  pub suffix_place_lem : (parts_of k d).suffix ≡ length d

pub record Layout : Type 0 where
  -- "32 bytes of command (26 not looked at)", "16 suffix bytes": the sizes that the writer goes by
  pub command_size_lem : 6 + filler_size ≡ 32
  pub suffix_size_lem : suffix_size ≡ 16
  pub pad_size : (a : ℕ) → padding a ≡ a % 32
  pub behind_pad : (x : ℕ) → body_place x ≡ 32 + x
  pub found : (k : Command) (a e : ℕ) → Programs k a e → (command pad new suffix : List ℕ) → Laid a e command pad new suffix
      → Found k a e command pad new suffix
  -- "48 + X + n": no other length is right
  pub whole : (k : Command) (a e n : ℕ) → Programs k a e → a + n ≡ e + 1 → (d : List ℕ) → bad_length k d ≡ false → length d ≡ 48 + a % 32 + n
  -- X and n of a command that programs
  pub transfer : (k : Command) (a e : ℕ) → Programs k a e → transfer_of k ≡ Some (laid (a % 32) (count a e))
  pub none : (k : Command) → ((a e : ℕ) → Programs k a e → ⊥) → transfer_of k ≡ None
  -- no other command has bytes, a suffix or a whole length
  pub no_transfer : (k : Command) → ((a e : ℕ) → Programs k a e → ⊥) → (d : List ℕ) → CarriesNone k d

-- "The reader answers the command, stall or 08h, in that order without the level.": "form, .. address .., and for program at last its whole
-- length"
pub record ReaderOrder : Type 0 where
  pub unlisted : (d : List ℕ) → form d ≡ None → read_command d ≡ Err Stall
  pub bad_address_lem : (d : List ℕ) (k : Command) → form d ≡ Some k → (AddressRight k → ⊥) → read_command d ≡ Err BadAddress
  pub bad_length_lem : (d : List ℕ) (k : Command) → form d ≡ Some k → AddressRight k → bad_length k d ≡ true → read_command d ≡ Err Stall
  pub taken : (d : List ℕ) (k : Command) → form d ≡ Some k → AddressRight k → bad_length k d ≡ false → read_command d ≡ Ok (k, parts_of k d)
  -- "status 00h", "stall", "08h"
  pub taken_00h : (k : Command) (p : Parts) → reading_status (Ok (k, p)) ≡ 0x00
  pub stall_0fh : (fault_number Stall ≡ 0x0F) × (reading_status (Err Stall) ≡ 0x0F)
  pub address_08h : (fault_number BadAddress ≡ 0x08) × (reading_status (Err BadAddress) ≡ 0x08)
