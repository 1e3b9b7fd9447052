-- What a request leaves on the board, said by the command that was accepted: for every board and every request.
-- The statements are proved in proofs/EffectsHold.antt.
use Rattle.std.specs.Prelude.{◌≡◌, true, List, [], ◌∷◌, ℕ, ◌≤◌, ◌<◌, length, Option, None, Some, Ok}
use Rattle.words.specs.Words.{among, Programmed}
use Rattle.memory.specs.Memory.{blank_flash}
use Rattle.memory.specs.Pages.{pages_met, block_start, block_ff}
use Rattle.config.specs.Config.{with_byte, with_hsb, erased_config}
use Rattle.config.specs.Level.{level}
use Rattle.memory.specs.declared.address.Block.TheVariants.{Low, Middle, High}
use Rattle.config.specs.declared.config.Config.{Config}
use Rattle.config.specs.declared.level.Level.TheVariants.{L0}
use Rattle.command.specs.Transfer.{body_of}
use Rattle.command.specs.Reader.{parts_of, read_command}
use Rattle.writer.specs.RoundTrip.{Bytes, ZeroFilled, WritesAs}
use Rattle.command.specs.declared.command.Command.{Command}
use Rattle.command.specs.declared.command.Command.TheVariants.{ProgramFlash, ProgramEeprom, Read, BlankCheck, EraseBlock, EraseChip, WriteByte, WriteHsb}
use Rattle.command.specs.declared.command.Command.TheVariants.{StartReset, StartAt, ReadVersion, ReadByte, ReadHsb}
use Rattle.rules.specs.Levels.{level_status}
use Rattle.rules.specs.Result.{Board, Result, next, pages, reply_after, Done, Stall, Refused}
use Rattle.rules.specs.Requests.{request_of, Dnload, ClrStatus}
use Rattle.rules.specs.Refusals.{refusal}
use Rattle.rules.specs.Answered.{Sizes}
use Rattle.rules.specs.BenchCases.{Ready, Unnamed, download, ask_state}
use Rattle.rules.specs.Step.{Event, Ask, PowerUp, ask, step, last_sent}

-- "for programming flash, the pages that the range meets; 64, 64, 128, 256 for the erases; else 0. .. at most 9 for a program
-- transfer."
abbrev pub PagesOf : Option Command → ℕ → Type 0
PagesOf None n = n ≡ 0
PagesOf (Some (ProgramFlash a e)) n = (n ≡ pages_met a.0 e.0) × (n ≤ 9)
PagesOf (Some (ProgramEeprom a e)) n = n ≡ 0
PagesOf (Some (Read r)) n = n ≡ 0
PagesOf (Some (BlankCheck a e)) n = n ≡ 0
PagesOf (Some (EraseBlock Low)) n = n ≡ 64
PagesOf (Some (EraseBlock Middle)) n = n ≡ 64
PagesOf (Some (EraseBlock High)) n = n ≡ 128
PagesOf (Some EraseChip) n = n ≡ 256
PagesOf (Some (WriteByte i v)) n = n ≡ 0
PagesOf (Some (WriteHsb v)) n = n ≡ 0
PagesOf (Some StartReset) n = n ≡ 0
PagesOf (Some (StartAt a)) n = n ≡ 0
PagesOf (Some ReadVersion) n = n ≡ 0
PagesOf (Some (ReadByte i)) n = n ≡ 0
PagesOf (Some ReadHsb) n = n ≡ 0

-- the flash, of which a byte that is not in the range stays
abbrev pub FlashAfter : Option Command → List ℕ → List ℕ → List ℕ → Type 0
FlashAfter None d before after = after ≡ before
FlashAfter (Some (ProgramFlash a e)) d before after = Programmed a.0 (body_of a.0 e.0 d) before after
FlashAfter (Some (ProgramEeprom a e)) d before after = after ≡ before
FlashAfter (Some (Read r)) d before after = after ≡ before
FlashAfter (Some (BlankCheck a e)) d before after = after ≡ before
FlashAfter (Some (EraseBlock k)) d before after = Programmed (block_start k) (block_ff k) before after
FlashAfter (Some EraseChip) d before after = after ≡ blank_flash
FlashAfter (Some (WriteByte i v)) d before after = after ≡ before
FlashAfter (Some (WriteHsb v)) d before after = after ≡ before
FlashAfter (Some StartReset) d before after = after ≡ before
FlashAfter (Some (StartAt a)) d before after = after ≡ before
FlashAfter (Some ReadVersion) d before after = after ≡ before
FlashAfter (Some (ReadByte i)) d before after = after ≡ before
FlashAfter (Some ReadHsb) d before after = after ≡ before

-- the EEPROM, of which a byte that is not in the range stays, and every byte in a full chip erase
abbrev pub EepromAfter : Option Command → List ℕ → List ℕ → List ℕ → Type 0
EepromAfter None d before after = after ≡ before
EepromAfter (Some (ProgramFlash a e)) d before after = after ≡ before
EepromAfter (Some (ProgramEeprom a e)) d before after = Programmed a.0 (body_of a.0 e.0 d) before after
EepromAfter (Some (Read r)) d before after = after ≡ before
EepromAfter (Some (BlankCheck a e)) d before after = after ≡ before
EepromAfter (Some (EraseBlock k)) d before after = after ≡ before
EepromAfter (Some EraseChip) d before after = after ≡ before
EepromAfter (Some (WriteByte i v)) d before after = after ≡ before
EepromAfter (Some (WriteHsb v)) d before after = after ≡ before
EepromAfter (Some StartReset) d before after = after ≡ before
EepromAfter (Some (StartAt a)) d before after = after ≡ before
EepromAfter (Some ReadVersion) d before after = after ≡ before
EepromAfter (Some (ReadByte i)) d before after = after ≡ before
EepromAfter (Some ReadHsb) d before after = after ≡ before

-- the configuration
abbrev pub config_after : Option Command → Config → Config
config_after None c = c
config_after (Some (ProgramFlash a e)) c = c
config_after (Some (ProgramEeprom a e)) c = c
config_after (Some (Read r)) c = c
config_after (Some (BlankCheck a e)) c = c
config_after (Some (EraseBlock k)) c = c
config_after (Some EraseChip) c = erased_config c
config_after (Some (WriteByte i v)) c = with_byte i v c
config_after (Some (WriteHsb v)) c = with_hsb v c
config_after (Some StartReset) c = c
config_after (Some (StartAt a)) c = c
config_after (Some ReadVersion) c = c
config_after (Some (ReadByte i)) c = c
config_after (Some ReadHsb) c = c

-- a request with the data d, answered with r, leaves these
pub record Leaves (b : Board) (d : List ℕ) (r : Result) : Type 0 where
  pub flash : FlashAfter r.accepted d b.flash (next b r).flash
  pub eeprom : EepromAfter r.accepted d b.eeprom (next b r).eeprom
  pub config : r.config ≡ config_after r.accepted b.config
  pub page_count_lem : PagesOf r.accepted (pages r)

-- the data that an event sends
abbrev pub event_data : Event → List ℕ
event_data (Ask setup d n) = d
event_data PowerUp = []

abbrev pub Effects : Type 0
Effects = (b : Board) (v : Event) → Leaves b (event_data v) (step b v)

-- ---- refusals

-- "A refusal gives its number, length 0 and 0 pages; session, memories, configuration and reply stay."
pub record MovesNothing (b : Board) (k number : ℕ) (r : Result) : Type 0 where
  pub its_number : number ≡ k
  pub nothing_sent : r.sent ≡ []
  pub no_pages : pages r ≡ 0
  pub board_stays : next b r ≡ b
  pub reply_stays : (p : List ℕ) → reply_after r p ≡ p

abbrev pub RefusalsMoveNothing : Type 0
RefusalsMoveNothing = (b : Board) (setup d : List ℕ) (n k : ℕ)
    → (ask b setup d n).outcome ≡ Refused k → MovesNothing b k (refusal b setup d n) (ask b setup d n)

-- "the first that applies is given"
abbrev pub RefusalsGiven : Type 0
RefusalsGiven = (b : Board) (setup d : List ℕ) (n : ℕ)
    → (refusal b setup d n ≡ 0 → ⊥) → (ask b setup d n).outcome ≡ Refused (refusal b setup d n)

-- ---- what is accepted

-- an accepted command is what the reader reads, the level allows it, and the answer is done with state 3 and the pages to wait for
pub record AcceptedRightly (b : Board) (d : List ℕ) (k : Command) (r : Result) : Type 0 where
  pub read : read_command d ≡ Ok (k, parts_of k d)
  pub allowed : level_status k (level b.config) ≡ 0x00
  pub done : r.outcome ≡ Done
  pub in_state_3 : r.session.state ≡ 3
  pub busy_set : r.session.busy ≡ pages r

abbrev pub AcceptedOnly : Type 0
AcceptedOnly = (b : Board) (setup d : List ℕ) (n : ℕ) (k : Command)
    → (ask b setup d n).accepted ≡ Some k → AcceptedRightly b d k (ask b setup d n)

-- DNLOAD of 1 to 1,103 bytes in state 2 or 5, not refused
pub record Commands (b : Board) (setup d : List ℕ) (n : ℕ) : Type 0 where
  pub bytes : ℕ
  pub not_refused : refusal b setup d n ≡ 0
  pub dnload : request_of setup ≡ Dnload bytes
  pub some_bytes : 0 < bytes
  pub not_too_many : bytes ≤ 1103
  pub in_state : among b.session.state (2 ∷ 5 ∷ []) ≡ true

abbrev pub AcceptedAlways : Type 0
AcceptedAlways = (b : Board) (setup d : List ℕ) (n : ℕ) (k : Command) → Commands b setup d n
    → read_command d ≡ Ok (k, parts_of k d) → level_status k (level b.config) ≡ 0x00 → (ask b setup d n).accepted ≡ Some k

-- a DNLOAD that has bytes and is not refused, in any state and however long, is accepted or leaves state 10; by `Effects`, memories and
-- configuration then stay
abbrev pub NotAcceptedSaid : Type 0
NotAcceptedSaid = (b : Board) (setup d : List ℕ) (n bytes : ℕ) → refusal b setup d n ≡ 0 → request_of setup ≡ Dnload bytes → 0 < bytes
    → (ask b setup d n).accepted ≡ None → (ask b setup d n).session.state ≡ 10

-- ---- an error status

-- "Clearing a refused write's status at a request other than CLRSTATUS" is an error: in state 10 every other request keeps the
-- state and the status
abbrev pub StatusStays : Type 0
StatusStays = (b : Board) (setup d : List ℕ) (n : ℕ) → b.session.state ≡ 10 → (request_of setup ≡ ClrStatus → ⊥)
    → ((ask b setup d n).session.state ≡ 10) × ((ask b setup d n).session.status ≡ b.session.status)

-- ---- the board and the writer

-- "A payload that a level 0 board in state 2 answers without stall or 08h, with zero filler and pad, is written back byte for byte.":
-- it is read as a command, and the writer, handed what was read, writes the payload
pub record WrittenBack (p : List ℕ) : Type 0 where
  pub command : Command
  pub read : read_command p ≡ Ok (command, parts_of command p)
  pub written : ZeroFilled command p → (room : List ℕ) → length p ≤ length room → WritesAs p command room

abbrev pub AnsweredIsWrittenBack : Type 0
AnsweredIsWrittenBack = (b : Board) → Ready L0 b → (u : Unnamed) (p : List ℕ) → Bytes p
    → ((step b (download u p)).outcome ≡ Stall → ⊥) → ((step b (download u p)).session.status ≡ 0x08 → ⊥) → WrittenBack p

-- ---- power-up

-- "GETSTATE after power-up is 02": on every board whose memories have their sizes, of any session and configuration
abbrev pub Awake : Type 0
Awake = (b : Board) → Sizes b.flash b.eeprom → (u : Unnamed) → last_sent b (PowerUp ∷ ask_state u ∷ []) ≡ 0x02 ∷ []
