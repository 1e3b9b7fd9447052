-- A result as the code gives it: the answer, and each lent memory after it. Assumes nothing: these are definitions.
use Rattle.std.specs.Prelude.{if◌then◌else◌, ◌≡◌, false, List, [], ℕ, ◌+◌, ◌-◌, ◌≤◌, ◌<◌, length, Some}
use Rattle.config.specs.Level.{level}
use Rattle.memory.specs.Memory.{flash_size, eeprom_size, flash_address, eeprom_address, range_start, range_end, memory_size}
use Rattle.memory.specs.declared.address.Range.{Range}
use Rattle.memory.specs.declared.address.Range.TheVariants.{Flash, Eeprom}
use Rattle.config.specs.declared.config.Config.{Config}
use Rattle.command.specs.Form.{form}
use Rattle.command.specs.Address.{bad_address}
use Rattle.command.specs.Transfer.{bad_length}
use Rattle.command.specs.declared.command.Command.{Command}
use Rattle.rules.specs.Session.{Session, session, Pending}
use Rattle.rules.specs.Commands.{stall}
use Rattle.rules.specs.Requests.{sendable, send}
use Rattle.rules.specs.Refusals.{bad_pending, reply_size}
use Rattle.rules.specs.Result.{Board, board, Result, Answer, answer, next, reply_after, Done}

-- what no memory is needed for: a board that has none
abbrev pub bare : Session → Config → Board
bare s c = board s c [] []

-- the answer a and the memories f and e are those of the result r
pub record Answered (b : Board) (r : Result) (a : Answer) (f e : List ℕ) : Type 0 where
  pub answered : a ≡ answer r
  pub flash : f ≡ (next b r).flash
  pub eeprom : e ≡ (next b r).eeprom

-- the answer a and the reply p, which was p₀, are those of the result r
pub record Replied (r : Result) (a : Answer) (p p₀ : List ℕ) : Type 0 where
  pub answered : a ≡ answer r
  pub reply : p ≡ reply_after r p₀

-- all of it: the answer a, the memories f and e, and the reply p, which was p₀, are those of the result r
pub record Stepped (b : Board) (r : Result) (a : Answer) (f e p p₀ : List ℕ) : Type 0 where
  pub answered : a ≡ answer r
  pub flash : f ≡ (next b r).flash
  pub eeprom : e ≡ (next b r).eeprom
  pub reply : p ≡ reply_after r p₀

-- the same of a lent session: s is what it holds afterwards
pub record Handled (b : Board) (r : Result) (a : Answer) (s : Session) (f e p p₀ : List ℕ) : Type 0 where
  pub stepped : Stepped b r a f e p p₀
  pub left : s ≡ a.session

-- memories of their sizes
pub record Sizes (f e : List ℕ) : Type 0 where
  pub flash_size_lem : length f ≡ flash_size
  pub eeprom_size_lem : length e ≡ eeprom_size

-- a command whose form is right
pub record Formed (k : Command) (d f e : List ℕ) : Type 0 where
  pub sizes : Sizes f e
  pub formed : form d ≡ Some k

-- a command of data d that nothing stops but the level
pub record Acceptable (k : Command) (d f e : List ℕ) : Type 0 where
  pub sizes : Sizes f e
  pub formed : form d ≡ Some k
  pub address_right : bad_address k ≡ false
  pub length_right : bad_length k d ≡ false

-- the first n bytes of a range
abbrev pub first_of : ℕ → Range → Range
first_of n (Flash a e) = Flash a (flash_address (a.0 + (n - 1)))
first_of n (Eeprom a e) = Eeprom a (eeprom_address (a.0 + (n - 1)))

-- a range inside its memory with more than n bytes, n not 0
pub record Splits (n : ℕ) (r : Range) : Type 0 where
  pub some_asked : 0 < n
  pub more : range_start r + n ≤ range_end r
  pub inside : range_end r < memory_size r

-- a reply with room, and memories of their sizes
pub record Room (f e p : List ℕ) : Type 0 where
  pub sizes : Sizes f e
  pub room : reply_size ≤ length p

-- n bytes are asked of something pending that is right
pub record Sendable (n : ℕ) (q : Pending) (f e p : List ℕ) : Type 0 where
  pub ready : Room f e p
  pub pending_right : bad_pending q ≡ false
  pub some_asked : 0 < n

-- UPLOAD in 5 or 9, wLength over 0
abbrev pub send_pending : Board → ℕ → Result
send_pending b n = if sendable b.session.pending (level b.config) then send b n b.session.pending else stall b

-- the answer that sends k bytes, and keeps the busy count
abbrev pub sent_answer : Config → ℕ → Pending → ℕ → ℕ → Answer
sent_answer c state p busy k = record { outcome = Done; session = session state 0x00 p busy; config = c; length = k; pages = 0 }

-- the answer to an accepted command: configuration after it, status, what is pending, pages, which are the busy count too
abbrev pub accepted_answer : Config → ℕ → Pending → ℕ → Answer
accepted_answer c status p n = record { outcome = Done; session = session 3 status p n; config = c; length = 0; pages = n }
