-- What is built of its parts has each of them in its place: a configuration, a board, and the results of a record. Proved in
-- proofs/NamedHolds.antt.
use Rattle.std.specs.Prelude.{◌≡◌, List, [], ◌++◌, ℕ, ◌≤◌, ◌<◌, length, drop, None, Some, Ok, Err}
use Rattle.memory.specs.Memory.{page}
use Rattle.memory.specs.Pages.{Store, store_all}
use Rattle.memory.specs.Program.{bytes_stores}
use Rattle.memory.specs.Erase.{pages_erase}
use Rattle.memory.specs.declared.address.FlashAddress.{FlashAddress}
use Rattle.blank.specs.Blank.{used_in}
use Rattle.record.specs.Reader.{reading, data_read}
use Rattle.record.specs.declared.fields.Fields.{Fields}
use Rattle.record.specs.declared.reader.ReadError.TheVariants.{WrongChecksum, BadRecord, TooShort}
use Rattle.plug.specs.Config.{Config, config, Setting, Byte, with_setting, byte_value, erased_config}
use Rattle.plug.specs.Levels.{Command, Program, Display, BlankCheck, EraseBlock, EraseChip, Write, Read, StartReset, StartAt}
use Rattle.plug.specs.Commands.{Block, flash_size, block_page, block_pages, form}
use Rattle.plug.specs.Answers.{done_text, wrong_checksum_text, value_text, blank_text, display_text}
use Rattle.plug.specs.Step.{Board, board, next, pages, Outcome, Answered, StartedReset, StartedAt, Refused}
use Rattle.plug.specs.Step.{Result, refused, told, did, started, perform, obey_form, answer_to, answer, in_room}
use Rattle.plug.specs.Answered.{room_after}

-- what each command does on every board, whatever the flash is: its answer, the configuration after it and its stores
pub record Performs (b : Board) (d : List ℕ) : Type 0 where
  pub program : (a : FlashAddress) → perform b (Program a) d ≡ did (Program a) done_text b.config (bytes_stores a d b.flash)
  pub display : (a e : FlashAddress) → perform b (Display a e) d ≡ did (Display a e) (display_text a.0 e.0 b.flash) b.config []
  pub check : (a e : FlashAddress) → perform b (BlankCheck a e) d ≡ did (BlankCheck a e) (blank_text (used_in a.0 e.0 b.flash)) b.config []
  pub erase_block : (k : Block)
      → perform b (EraseBlock k) d ≡ did (EraseBlock k) done_text b.config (pages_erase (block_page k) (block_pages k) b.flash)
  pub erase_chip : perform b EraseChip d ≡ did EraseChip done_text (erased_config b.config) (pages_erase (page 0) 512 b.flash)
  pub write : (s : Setting) → perform b (Write s) d ≡ did (Write s) done_text (with_setting s b.config) []
  pub read : (x : Byte) → perform b (Read x) d ≡ did (Read x) (value_text (byte_value x b.config)) b.config []
  pub start_reset : perform b StartReset d ≡ started StartReset StartedReset b.config
  pub start_at : (a : FlashAddress) → perform b (StartAt a) d ≡ started (StartAt a) (StartedAt a) b.config

pub record Named : Type 0 where
  pub of_config : (b v s h : ℕ) → config b v s h ≡ record { bsb = b; sbv = v; ssb = s; hsb = h }
  pub of_board : (c : Config) (f : List ℕ) → board c f ≡ record { config = c; flash = f }
  -- the board after a result: its configuration, and the flash after all stores
  pub of_next : (b : Board) (r : Result) → next b r ≡ board r.config (store_all r.stored b.flash)
  pub of_pages : (r : Result) → pages r ≡ length r.stored
  -- "A refusal gives its number, length 0 and 0 pages"; `X`, `P` and a display: characters, and nothing moves
  pub of_refused : (c : Config) (n : ℕ) → refused c n ≡ record { outcome = Refused n; text = []; config = c; stored = []; done = None }
  pub of_told : (c : Config) (t : List ℕ) → told c t ≡ record { outcome = Answered; text = t; config = c; stored = []; done = None }
  -- a command that was done, and a start: "No answer is returned by the device."
  pub of_did : (k : Command) (t : List ℕ) (c : Config) (ss : List Store)
      → did k t c ss ≡ record { outcome = Answered; text = t; config = c; stored = ss; done = Some k }
  pub of_started : (k : Command) (o : Outcome) (c : Config) → started k o c ≡ record { outcome = o; text = []; config = c; stored = []; done = Some k }
  -- a record is answered by what was read of it, on a flash of 65,536 bytes
  pub flash_size_lem : flash_size ≡ 65536
  pub of_answer : (b : Board) (cs : List ℕ) → length b.flash ≡ 65536 → answer b cs ≡ answer_to b (reading cs) (data_read (reading cs) cs)
  pub of_reading : (b : Board) (f : Fields) (d : List ℕ) → (answer_to b (Ok f) d ≡ obey_form b (form f.kind f.offset d) d)
      × (answer_to b (Err WrongChecksum) d ≡ told b.config wrong_checksum_text)
      × (answer_to b (Err BadRecord) d ≡ refused b.config 17) × (answer_to b (Err TooShort) d ≡ refused b.config 9)
  pub of_commands : (b : Board) (d : List ℕ) → Performs b d
  -- "otherwise the room past its answer"
  pub of_room : (r : Result) (room : List ℕ) → room_after r room ≡ r.text ++ drop (length r.text) room
  -- "and 9 in place of whichever answer doesn't fit"
  pub in_room_lem : (c : Config) (n : ℕ) (r : Result) → length r.text ≤ n → in_room c n r ≡ r
  pub no_room : (c : Config) (n : ℕ) (r : Result) → n < length r.text → in_room c n r ≡ refused c 9
