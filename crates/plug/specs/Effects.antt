-- What a record leaves on the board, said by the command that was done: for every board, record and room. The statements are proved
-- in proofs/EffectsHold.antt.
use Rattle.std.specs.Prelude.{◌≡◌, true, false, List, [], ◌∷◌, ℕ, ◌+◌, ◌-◌, ◌*◌, ◌≤◌, length, replicate, Option, None, Some}
use Rattle.words.specs.Words.{among, Programmed}
use Rattle.memory.specs.Memory.{page_size}
use Rattle.memory.specs.Pages.{pages_met}
use Rattle.record.specs.Reader.{reading, data_read}
use Rattle.plug.specs.Config.{Config, level, with_setting, erased_config}
use Rattle.plug.specs.Levels.{Command, Program, Display, BlankCheck, EraseBlock, EraseChip, Write, Read, StartReset, StartAt, allowed}
use Rattle.plug.specs.Commands.{flash_size, flash_pages, block_page, block_pages, bad_range}
use Rattle.plug.specs.Examples.{command_of}
use Rattle.plug.specs.Step.{Board, Result, next, pages, step, Refused, blank_flash}

-- how many pages were stored: those that a program record's bytes meet, 64, 64, 128 and 256 for the blocks, 512 for the chip, else none
abbrev pub PagesOf : Option Command → List ℕ → ℕ → Type 0
PagesOf None d n = n ≡ 0
PagesOf (Some (Program a)) d n = (n ≡ pages_met a.0 (a.0 + length d - 1)) × (n ≤ 2)
PagesOf (Some (Display a e)) d n = n ≡ 0
PagesOf (Some (BlankCheck a e)) d n = n ≡ 0
PagesOf (Some (EraseBlock k)) d n = n ≡ block_pages k
PagesOf (Some EraseChip) d n = n ≡ flash_pages
PagesOf (Some (Write s)) d n = n ≡ 0
PagesOf (Some (Read x)) d n = n ≡ 0
PagesOf (Some StartReset) d n = n ≡ 0
PagesOf (Some (StartAt a)) d n = n ≡ 0

-- the flash, of which a byte that is not in the range stays
abbrev pub FlashAfter : Option Command → List ℕ → List ℕ → List ℕ → Type 0
FlashAfter None d before after = after ≡ before
FlashAfter (Some (Program a)) d before after = Programmed a.0 d before after
FlashAfter (Some (Display a e)) d before after = after ≡ before
FlashAfter (Some (BlankCheck a e)) d before after = after ≡ before
FlashAfter (Some (EraseBlock k)) d before after =
    Programmed (page_size * (block_page k).0) (replicate (page_size * block_pages k) 0xFF) before after
FlashAfter (Some EraseChip) d before after = after ≡ blank_flash
FlashAfter (Some (Write s)) d before after = after ≡ before
FlashAfter (Some (Read x)) d before after = after ≡ before
FlashAfter (Some StartReset) d before after = after ≡ before
FlashAfter (Some (StartAt a)) d before after = after ≡ before

-- the configuration
abbrev pub config_after : Option Command → Config → Config
config_after None c = c
config_after (Some (Program a)) c = c
config_after (Some (Display a e)) c = c
config_after (Some (BlankCheck a e)) c = c
config_after (Some (EraseBlock k)) c = c
config_after (Some EraseChip) c = erased_config c
config_after (Some (Write s)) c = with_setting s c
config_after (Some (Read x)) c = c
config_after (Some StartReset) c = c
config_after (Some (StartAt a)) c = c

-- a record whose data is d, answered with r, leaves these. Where no command was done, by a refusal, `X` or `P`, all stays
pub record Leaves (b : Board) (d : List ℕ) (r : Result) : Type 0 where
  pub flash : FlashAfter r.done d b.flash (next b r).flash
  pub config : r.config ≡ config_after r.done b.config
  pub page_count_lem : PagesOf r.done d (pages r)

abbrev pub record_data : List ℕ → List ℕ
record_data cs = data_read (reading cs) cs

abbrev pub Effects : Type 0
Effects = (b : Board) (cs : List ℕ) (n : ℕ) → Leaves b (record_data cs) (step b cs n)

-- a numbered refusal is 2, 17 or 9, does no command and says nothing
pub record MovesNothing (k : ℕ) (r : Result) : Type 0 where
  pub numbered : among k (2 ∷ 17 ∷ 9 ∷ []) ≡ true
  pub not_done : r.done ≡ None
  pub nothing_said : r.text ≡ []

abbrev pub RefusalsMoveNothing : Type 0
RefusalsMoveNothing = (b : Board) (cs : List ℕ) (n k : ℕ) → (step b cs n).outcome ≡ Refused k → MovesNothing k (step b cs n)

-- a command that was done is the record's, its range is right, the level allows it, and its answer fits the room
pub record DoneRightly (b : Board) (cs : List ℕ) (n : ℕ) (k : Command) : Type 0 where
  pub flash_size_lem : length b.flash ≡ flash_size
  pub its_command : command_of cs ≡ Some k
  pub range_right : bad_range k (length (record_data cs)) ≡ false
  pub allowed_there : allowed k (level b.config) ≡ true
  pub answer_fits : length (step b cs n).text ≤ n

abbrev pub DoneOnly : Type 0
DoneOnly = (b : Board) (cs : List ℕ) (n : ℕ) (k : Command) → (step b cs n).done ≡ Some k → DoneRightly b cs n k
