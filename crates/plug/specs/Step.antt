-- One record, and runs of them. Assumes nothing: these are definitions.
use Rattle.std.specs.Prelude.{if◌then◌else◌, List, [], ◌∷◌, ℕ, eqb, ltb, length, replicate, Option, None, Some, Ok, Err}
use Rattle.memory.specs.Memory.{page}
use Rattle.memory.specs.Pages.{Store, store_all}
use Rattle.memory.specs.Program.{bytes_stores}
use Rattle.memory.specs.Erase.{pages_erase}
use Rattle.blank.specs.Blank.{used_in}
use Rattle.record.specs.Reader.{Reading, reading, data_read}
use Rattle.record.specs.declared.reader.ReadError.TheVariants.{WrongChecksum, BadRecord, TooShort}
use Rattle.plug.specs.Config.{Config, level, with_setting, byte_value, erased_config}
use Rattle.plug.specs.Levels.{Command, Program, Display, BlankCheck, EraseBlock, EraseChip, Write, Read, StartReset, StartAt, allowed}
use Rattle.plug.specs.Commands.{flash_size, flash_pages, block_page, block_pages, form, bad_range}
use Rattle.plug.specs.Answers.{done_text, wrong_checksum_text, security_text, value_text, blank_text, display_text}
pub use Rattle.plug.specs.declared.answer.Outcome.{Outcome}
pub use Rattle.plug.specs.declared.answer.Outcome.TheVariants.{Answered, StartedReset, StartedAt, Refused}
pub use Rattle.plug.specs.declared.answer.Answer.{Answer}

-- the board: configuration and flash. The loader keeps no session
pub record Board : Type 0 where
  pub config : Config
  pub flash : List ℕ

abbrev pub board : Config → List ℕ → Board
board c f = record { config = c; flash = f }

-- the outcome and the answer's characters; the configuration after it; the page stores; the command that was done, if one was
pub record Result : Type 0 where
  pub outcome : Outcome
  pub text : List ℕ
  pub config : Config
  pub stored : List Store
  pub done : Option Command

-- the board after it, and how many pages were stored
abbrev pub next : Board → Result → Board
next b r = board r.config (store_all r.stored b.flash)

abbrev pub pages : Result → ℕ
pages r = length r.stored

-- "A refusal gives its number, length 0 and 0 pages; .. memories, configuration and reply stay."
abbrev pub refused : Config → ℕ → Result
refused c n = record { outcome = Refused n; text = []; config = c; stored = []; done = None }

-- `X` and `P`: an answer, and nothing moves
abbrev pub told : Config → List ℕ → Result
told c t = record { outcome = Answered; text = t; config = c; stored = []; done = None }

-- a command that was done: its answer, the configuration after it and its stores
abbrev pub did : Command → List ℕ → Config → List Store → Result
did k t c ss = record { outcome = Answered; text = t; config = c; stored = ss; done = Some k }

-- "Start the Application": "No answer is returned by the device."
abbrev pub started : Command → Outcome → Config → Result
started k o c = record { outcome = o; text = []; config = c; stored = []; done = Some k }

-- what each command does; d is the record's data
unfoldable pub perform : Board → Command → List ℕ → Result
perform b (Program a) d = did (Program a) done_text b.config (bytes_stores a d b.flash)
perform b (Display a e) d = did (Display a e) (display_text a.0 e.0 b.flash) b.config []
perform b (BlankCheck a e) d = did (BlankCheck a e) (blank_text (used_in a.0 e.0 b.flash)) b.config []
perform b (EraseBlock k) d = did (EraseBlock k) done_text b.config (pages_erase (block_page k) (block_pages k) b.flash)
perform b EraseChip d = did EraseChip done_text (erased_config b.config) (pages_erase (page 0) flash_pages b.flash)
perform b (Write s) d = did (Write s) done_text (with_setting s b.config) []
perform b (Read x) d = did (Read x) (value_text (byte_value x b.config)) b.config []
perform b StartReset d = started StartReset StartedReset b.config
perform b (StartAt a) d = started (StartAt a) (StartedAt a) b.config

-- "then 17 for an unknown type, a backward range or one past FFFFh; then `P`"
unfoldable pub obey : Board → Command → List ℕ → Result
obey b k d =
    if bad_range k (length d) then refused b.config 17 else
    if allowed k (level b.config) then perform b k d else
    told b.config security_text

abbrev pub obey_form : Board → Option Command → List ℕ → Result
obey_form b None d = refused b.config 17
obey_form b (Some k) d = obey b k d

-- "then 17 for a character that is no hex digit or a record of wrong length; then `X` for a wrong checksum"
abbrev pub answer_to : Board → Reading → List ℕ → Result
answer_to b (Ok f) d = obey_form b (form f.kind f.offset d) d
answer_to b (Err WrongChecksum) d = told b.config wrong_checksum_text
answer_to b (Err BadRecord) d = refused b.config 17
answer_to b (Err TooShort) d = refused b.config 9

-- "2 when the flash isn't 65,536 bytes": the answer, before the room is looked at
unfoldable pub answer : Board → List ℕ → Result
answer b cs =
    if eqb (length b.flash) flash_size then answer_to b (reading cs) (data_read (reading cs) cs) else
    refused b.config 2

-- "and 9 in place of whichever answer doesn't fit, `X` and `P` too; nothing is stored": in a room of n characters
abbrev pub in_room : Config → ℕ → Result → Result
in_room c n r = if ltb n (length r.text) then refused c 9 else r

unfoldable pub step : Board → List ℕ → ℕ → Result
step b cs n = in_room b.config n (answer b cs)

-- what happens to a board: a record's characters, and the size of the room for its answer, whose content no answer looks at
pub record Event : Type 0 where
  pub record_characters : List ℕ
  pub room_size : ℕ

abbrev pub take_record : Board → Event → Result
take_record b v = step b v.record_characters v.room_size

-- what whoever sent the record gets to know: outcome, the answer's characters and the page count
pub record Report : Type 0 where
  pub outcome : Outcome
  pub text : List ℕ
  pub page_count_lem : ℕ

abbrev pub report : Result → Report
report r = record { outcome = r.outcome; text = r.text; page_count_lem = pages r }

-- the reports of a run
abbrev pub reports : Board → List Event → List Report
reports b [] = []
reports b (v ∷ vs) = report (take_record b v) ∷ reports (next b (take_record b v)) vs

-- a flash all FFh; shut, so that nothing computes it by chance
unfoldable pub blank_flash : List ℕ
blank_flash = replicate flash_size 0xFF
