-- What a request gives, as data: the answer, and what it does to the board. Assumes nothing: these are definitions.
use Rattle.std.specs.Prelude.{List, [], ◌∷◌, ◌++◌, ℕ, ◌+◌, length, drop, Option, None}
use Rattle.words.specs.Words.{overlay}
use Rattle.memory.specs.Pages.{Store, store_all}
use Rattle.memory.specs.declared.address.EepromAddress.{EepromAddress}
use Rattle.config.specs.declared.config.Config.{Config}
use Rattle.command.specs.declared.command.Command.{Command}
use Rattle.rules.specs.Session.{Session, start_number}
pub use Rattle.rules.specs.declared.answer.Outcome.{Outcome}
pub use Rattle.rules.specs.declared.answer.Outcome.TheVariants.{Done, Stall, Started, Refused}
pub use Rattle.rules.specs.declared.answer.Answer.{Answer}

-- an outcome's number and value: 0 done, 1 stall, 2 a start by reset and 3 at an address, each with its address, 4 a refusal with
-- "the paper's number"
abbrev pub outcome_number : Outcome → ℕ
outcome_number Done = 0
outcome_number Stall = 1
outcome_number (Started k a) = 2 + start_number k
outcome_number (Refused n) = 4

abbrev pub outcome_value : Outcome → ℕ
outcome_value Done = 0
outcome_value Stall = 0
outcome_value (Started k a) = a.0
outcome_value (Refused n) = n

-- the board: session, configuration and the two memories
pub record Board : Type 0 where
  pub session : Session
  pub config : Config
  pub flash : List ℕ
  pub eeprom : List ℕ

abbrev pub board : Session → Config → List ℕ → List ℕ → Board
board s c f e = record { session = s; config = c; flash = f; eeprom = e }

-- bytes programmed into the EEPROM from an address on
pub record Patch : Type 0 where
  pub at : EepromAddress
  pub bytes : List ℕ

abbrev pub patch_all : List Patch → List ℕ → List ℕ
patch_all [] m = m
patch_all (p ∷ ps) m = patch_all ps (overlay p.at.0 p.bytes m)

-- outcome and bytes sent; session and configuration after it; the page stores; the EEPROM's new bytes; the command that was
-- accepted, if one was
pub record Result : Type 0 where
  pub outcome : Outcome
  pub sent : List ℕ
  pub session : Session
  pub config : Config
  pub stored : List Store
  pub patched : List Patch
  pub accepted : Option Command

-- "Each answer carries a page count .. It equals the pages that the definition stores, one after another"
abbrev pub pages : Result → ℕ
pages r = length r.stored

-- the board after it
abbrev pub next : Board → Result → Board
next b r = board r.session r.config (store_all r.stored b.flash) (patch_all r.patched b.eeprom)

-- the answer, and the reply buffer after it: "reply bytes past those sent stay"
abbrev pub answer : Result → Answer
answer r = record { outcome = r.outcome; session = r.session; config = r.config; length = length r.sent; pages = pages r }

abbrev pub reply_after : Result → List ℕ → List ℕ
reply_after r reply = r.sent ++ drop (length r.sent) reply

-- an answer that changes neither memory nor configuration and accepts no command
abbrev pub reply : Config → Outcome → List ℕ → Session → Result
reply c o bs s = record { outcome = o; sent = bs; session = s; config = c; stored = []; patched = []; accepted = None }
