-- The statement of specs/Judged.antt holds: form, level, address and length ask the same of both transfers.
-- Assumes nothing.
use Rattle.std.specs.Prelude.{if◌then◌else◌, None, Some}
use mathlib.Core.Path.{◌≡◌, refl}
use mathlib.Core.Bool.{Bool, true, false}
use mathlib.Core.List.{List}
use Prim.Native.Nat.{ℕ, ◌<◌}
use native.Mathlib.Omega.{arith}
use lib.Dec.{leb}
use lib.ListN.{length}
use borrow.Author.Tests.{lt-leb}
use Rattle.words.specs.Words.{high_first}
use Rattle.memory.specs.Memory.{flash_address, eeprom_address, flash_size, eeprom_size}
use Rattle.config.specs.Level.{level}
use Rattle.command.specs.Form.{form}
use Rattle.command.specs.Address.{bad_ends, bad_address, bad_address_status}
use Rattle.command.specs.Transfer.{bad_length}
use Rattle.command.specs.declared.command.Command.{Command}
use Rattle.command.specs.declared.command.Command.TheVariants.{ProgramFlash, ProgramEeprom}
use Rattle.rules.specs.Result.{Board, Result}
use Rattle.rules.specs.Levels.{level_status}
use Rattle.rules.specs.Commands.{stall, set_status, perform, accept, forbidden, obey, obey_form}
use Rattle.rules.specs.Judged.{transfer_with, SameVerdict, JudgedAlike}

same : (r : Result) → SameVerdict r r
same r = record { outcome = refl; state = refl; status = refl; pending = refl }

-- an end that is inside the EEPROM is inside the flash
inside_both : (a e : ℕ) → e < eeprom_size → bad_ends flash_size a e ≡ bad_ends eeprom_size a e
inside_both a e h =
    let in-flash = lt-leb flash_size e (omega arith) in
    let in-eeprom = lt-leb eeprom_size e h in
    rw (in-flash, in-eeprom)

-- level, address and length, asked one after the other
three_tests : (t u w : Bool) (x y z r s : Result) → SameVerdict r s
    → SameVerdict (if t then x else if u then y else if w then z else r) (if t then x else if u then y else if w then z else s)
three_tests true u w x y z r s h = same x
three_tests false true w x y z r s h = same y
three_tests false false true x y z r s h = same z
three_tests false false false x y z r s h = h

module _ (b : Board) (rest : List ℕ) (a e : ℕ) (h : e < eeprom_size) where
  abbrev to_flash : Command
  to_flash = ProgramFlash (flash_address a) (flash_address e)

  abbrev to_eeprom : Command
  to_eeprom = ProgramEeprom (eeprom_address a) (eeprom_address e)

  obey_alike : SameVerdict (obey b to_flash (transfer_with 0x00 rest)) (obey b to_eeprom (transfer_with 0x01 rest))
  unfolding obey perform
  obey_alike =
      rw (inside_both a e h)
      (three_tests (forbidden b to_eeprom) (bad_address to_eeprom) (bad_length to_eeprom (transfer_with 0x01 rest))
      (set_status b (level_status to_eeprom (level b.config))) (set_status b bad_address_status) (stall b)
      (accept to_flash (perform b to_flash (transfer_with 0x00 rest))) (accept to_eeprom (perform b to_eeprom (transfer_with 0x01 rest)))
      (record { outcome = refl; state = refl; status = refl; pending = refl }))

  form_alike : (t : Bool) → SameVerdict (obey_form b (if t then Some to_flash else None) (transfer_with 0x00 rest))
      (obey_form b (if t then Some to_eeprom else None) (transfer_with 0x01 rest))
  form_alike true = obey_alike
  form_alike false = same (stall b)

pub judged_alike : JudgedAlike
unfolding form
judged_alike b rest h = form_alike b rest (high_first rest 0) (high_first rest 2) h (leb 6 (length (transfer_with 0x00 rest)))
