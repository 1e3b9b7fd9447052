-- What the board does with a command. Assumes nothing: these are definitions.
use Rattle.std.specs.Prelude.{if◌then◌else◌, Bool, not, List, [], ◌∷◌, ℕ, eqb, length, Option, None, Some}
use Rattle.memory.specs.Memory.{flash_address}
use Rattle.memory.specs.Pages.{Store, program_stores, block_stores, chip_stores}
use Rattle.blank.specs.Blank.{used_in, used_status}
use Rattle.config.specs.Config.{version, config_byte, with_byte, with_hsb, erased_config}
use Rattle.config.specs.Level.{level}
use Rattle.memory.specs.declared.address.FlashAddress.{FlashAddress}
use Rattle.memory.specs.declared.address.EepromAddress.{EepromAddress}
use Rattle.config.specs.declared.config.Config.{Config}
use Rattle.command.specs.Address.{bad_address, bad_address_status}
use Rattle.command.specs.Reader.{stall_status}
use Rattle.command.specs.Transfer.{body_of, bad_length}
use Rattle.command.specs.declared.command.Command.{Command}
use Rattle.command.specs.declared.command.Command.TheVariants.{ProgramFlash, ProgramEeprom, Read, BlankCheck, EraseBlock, EraseChip, WriteByte, WriteHsb}
use Rattle.command.specs.declared.command.Command.TheVariants.{StartReset, StartAt, ReadVersion, ReadByte, ReadHsb}
use Rattle.rules.specs.Session.{session, Pending, Nothing, MemoryRead, BlankReport, OneByte, Start, Reset, AtAddress}
use Rattle.rules.specs.Levels.{level_status}
use Rattle.rules.specs.Result.{Board, Patch, Result, reply, Done, Stall}

-- "Stall: state 10, status 0Fh, nothing pending. In state 10 the status there already stays. Nothing is sent; memory and
-- configuration stay."; P5 of 02: "The count is cleared by .. every stall"
unfoldable pub stall : Board → Result
stall b = reply b.config Stall [] (session 10 (if eqb b.session.state 10 then b.session.status else stall_status) Nothing 0)

-- "A status above is set with state 10 and nothing pending, and nothing else moves.": the busy count stays
abbrev pub set_status : Board → ℕ → Result
set_status b status = reply b.config Done [] (session 10 status Nothing b.session.busy)

-- ---- an accepted command

-- what it sets and does
pub record Effect : Type 0 where
  pub status : ℕ
  pub pending : Pending
  pub config : Config
  pub stored : List Store
  pub patched : List Patch

-- something pending and nothing else; a new configuration and nothing else
abbrev pub leaves : Config → Pending → Effect
leaves c p = record { status = 0x00; pending = p; config = c; stored = []; patched = [] }

abbrev pub configures : Config → Effect
configures c = leaves c Nothing

-- page stores with the configuration after them; bytes of EEPROM
abbrev pub stores : Config → List Store → Effect
stores c ss = record { status = 0x00; pending = Nothing; config = c; stored = ss; patched = [] }

abbrev pub patches : Config → List Patch → Effect
patches c ps = record { status = 0x00; pending = Nothing; config = c; stored = []; patched = ps }

-- "program": "Programmed bytes take the new values and all others stay."; flash by page stores, EEPROM by its bytes
abbrev pub program_flash : Board → FlashAddress → FlashAddress → List ℕ → Effect
program_flash b a e d = stores b.config (program_stores a.0 e.0 (body_of a.0 e.0 d) b.flash)

abbrev pub program_eeprom : Board → EepromAddress → EepromAddress → List ℕ → Effect
program_eeprom b a e d = patches b.config (record { at = a; bytes = body_of a.0 e.0 d } ∷ [])

-- the status of what a blank check finds, and what it leaves pending
abbrev pub finds : Config → Option FlashAddress → Pending → Effect
finds c u p = record { status = used_status u; pending = p; config = c; stored = []; patched = [] }

-- "A blank check that meets a byte not FFh sets 05h with state 3 and the first such address pending."
abbrev pub blank_effect : Config → Option ℕ → Effect
blank_effect c None = finds c None Nothing
blank_effect c (Some x) = finds c (Some (flash_address x)) (BlankReport (flash_address x))

-- each row of the table; d the whole data
unfoldable pub perform : Board → Command → List ℕ → Effect
perform b (ProgramFlash a e) d = program_flash b a e d
perform b (ProgramEeprom a e) d = program_eeprom b a e d
perform b (Read r) d = leaves b.config (MemoryRead r)
perform b (BlankCheck a e) d = blank_effect b.config (used_in a.0 e.0 b.flash)
perform b (EraseBlock k) d = stores b.config (block_stores k b.flash)
perform b EraseChip d = stores (erased_config b.config) chip_stores
perform b (WriteByte i v) d = configures (with_byte i v b.config)
perform b (WriteHsb v) d = configures (with_hsb v b.config)
perform b StartReset d = leaves b.config (Start Reset (flash_address 0x0000))
perform b (StartAt a) d = leaves b.config (Start AtAddress a)
perform b ReadVersion d = leaves b.config (OneByte version)
perform b (ReadByte i) d = leaves b.config (OneByte (config_byte i b.config))
perform b ReadHsb d = leaves b.config (OneByte b.config.hsb)

-- "An accepted command sets status 00h, state 3 and what is pending"; P5 of 02: "An accepted command, a blank check that gives 05h too,
-- sets it to its page count.", which is how many pages it stores
abbrev pub accept : Command → Effect → Result
accept k x = record {
  outcome = Done;
  sent = [];
  session = session 3 x.status x.pending (length x.stored);
  config = x.config;
  stored = x.stored;
  patched = x.patched;
  accepted = Some k;
}

-- ---- the order

-- the level says no
abbrev pub forbidden : Board → Command → Bool
forbidden b k = not (eqb (level_status k (level b.config)) 0x00)

-- "Order: form, level, address .. 08h), and for program at last its whole length.": a command, whose form is right
unfoldable pub obey : Board → Command → List ℕ → Result
obey b k d =
    if forbidden b k then set_status b (level_status k (level b.config)) else
    if bad_address k then set_status b bad_address_status else
    if bad_length k d then stall b else
    accept k (perform b k d)

abbrev pub obey_form : Board → Option Command → List ℕ → Result
obey_form b None d = stall b
obey_form b (Some k) d = obey b k d
