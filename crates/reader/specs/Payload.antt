-- A payload judged: "form, .. address .., and for program at last its whole length", and where its parts lie. The level, which 01 has between
-- form and address, stops a command whatever is said of it here. Assumes nothing: these are definitions and a statement.
use Rattle.std.specs.Prelude.{if◌then◌else◌, ◌≡◌, true, false, List, ℕ, length, Option, None, Some, Result, Ok, Err}
use Rattle.command.specs.Form.{form}
use Rattle.command.specs.Address.{bad_address}
use Rattle.command.specs.Transfer.{transfer_of, wrong_transfer, bad_length}
use Rattle.command.specs.Reader.{Reading, transfer_parts, parts_of, read_command}
use Rattle.command.specs.declared.command.Command.{Command}
use Rattle.command.specs.declared.transfer.Transfer.{Transfer}
use Rattle.command.specs.declared.reader.Parts.{Parts}
use Rattle.command.specs.declared.reader.Fault.{Fault}
use Rattle.command.specs.declared.reader.Fault.TheVariants as F
pub use Rattle.reader.specs.declared.payload.Misfit.{Misfit}
pub use Rattle.reader.specs.declared.payload.Misfit.TheVariants.{BadAddress, WrongLength}

-- a command against its data: where its parts lie, or the first that is wrong
abbrev pub Fit : Type 0
Fit = Result Parts Misfit

-- a command with how it fits its data; none for data that the table has not
abbrev pub Judgement : Type 0
Judgement = Option (Command × Fit)

-- "and for program at last its whole length": of data of l bytes
abbrev pub layout : Option Transfer → ℕ → Fit
layout t l = if wrong_transfer t l then Err WrongLength else Ok (transfer_parts t l)

-- address, then whole length
abbrev pub fit : Command → ℕ → Fit
fit k l = if bad_address k then Err BadAddress else layout (transfer_of k) l

abbrev pub judged : Option Command → ℕ → Judgement
judged None l = None
judged (Some k) l = Some (k, fit k l)

unfoldable pub judgement : List ℕ → Judgement
judgement d = judged (form d) (length d)

-- "stall or 08h", by what is wrong first
abbrev pub fault_of : Misfit → Fault
fault_of BadAddress = F.BadAddress
fault_of WrongLength = F.Stall

-- "The reader answers the command, stall or 08h": of a command that fits its data so
abbrev pub reading : Command → Fit → Reading
reading k (Ok p) = Ok (k, p)
reading k (Err x) = Err (fault_of x)

abbrev pub reading_of : Judgement → Reading
reading_of (Some j) = reading j.0 j.1
reading_of None = Err F.Stall

-- the judge's words, case by case; and the reader's answer is that of the judgement
pub record ReadAsJudged : Type 0 where
  pub unlisted : (d : List ℕ) → form d ≡ None → judgement d ≡ None
  pub listed : (d : List ℕ) (k : Command) → form d ≡ Some k → judgement d ≡ Some (k, fit k (length d))
  pub bad_address_lem : (k : Command) (l : ℕ) → bad_address k ≡ true → fit k l ≡ Err BadAddress
  pub wrong_length_lem : (k : Command) (d : List ℕ) → bad_address k ≡ false → bad_length k d ≡ true → fit k (length d) ≡ Err WrongLength
  pub fits : (k : Command) (d : List ℕ) → bad_address k ≡ false → bad_length k d ≡ false → fit k (length d) ≡ Ok (parts_of k d)
  pub answered : (k : Command) (p : Parts) → reading k (Ok p) ≡ Ok (k, p)
  pub stalled : (k : Command) → reading k (Err WrongLength) ≡ Err F.Stall
  pub told_08h : (k : Command) → reading k (Err BadAddress) ≡ Err F.BadAddress
  pub read : (d : List ℕ) → reading_of (judgement d) ≡ read_command d
