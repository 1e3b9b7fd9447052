-- P2 of 02: "a backward range or one past FFFFh": which ranges are refused with 17, and that all others are let through. Proved in
-- proofs/RangesHold.antt; Security has that a display has no limit.
use Rattle.std.specs.Prelude.{◌≡◌, true, false, ℕ, suc, ◌+◌, ◌≤◌, ◌<◌}
use Rattle.memory.specs.declared.address.FlashAddress.{FlashAddress}
use Rattle.plug.specs.Config.{Setting, Byte}
use Rattle.plug.specs.Levels.{Command, Program, Display, BlankCheck, EraseBlock, EraseChip, Write, Read, StartReset, StartAt}
use Rattle.plug.specs.Commands.{Block, bad_range}

-- whatever the record's length
abbrev pub Never : Command → Type 0
Never k = (n : ℕ) → bad_range k n ≡ false

pub record Ranges : Type 0 where
  -- "nb of Data", from Data[0] to Data[127]: 1 to 128 bytes, the last of them at FFFFh or before
  pub program_taken : (a : FlashAddress) (n : ℕ) → 1 ≤ n → n ≤ 128 → a.0 + n ≤ suc 0xFFFF → bad_range (Program a) n ≡ false
  pub program_empty : (a : FlashAddress) → bad_range (Program a) 0 ≡ true
  pub program_long : (a : FlashAddress) (n : ℕ) → 128 < n → bad_range (Program a) n ≡ true
  pub program_past : (a : FlashAddress) (n : ℕ) → suc 0xFFFF < a.0 + n → bad_range (Program a) n ≡ true
  -- "a backward range"; the end is of the range
  pub display_backward : (a e : FlashAddress) (n : ℕ) → e.0 < a.0 → bad_range (Display a e) n ≡ true
  pub check_backward : (a e : FlashAddress) (n : ℕ) → e.0 < a.0 → bad_range (BlankCheck a e) n ≡ true
  pub check_forward : (a e : FlashAddress) (n : ℕ) → a.0 ≤ e.0 → bad_range (BlankCheck a e) n ≡ false
  -- no other command has a range; a start at any address is let through
  pub block_erased : (k : Block) → Never (EraseBlock k)
  pub chip_erased : Never EraseChip
  pub written : (s : Setting) → Never (Write s)
  pub read : (x : Byte) → Never (Read x)
  pub reset_started : Never StartReset
  pub address_started : (a : FlashAddress) → Never (StartAt a)
