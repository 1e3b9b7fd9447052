-- What level 2 gives away of the flash. 01 calls this demand 3 and does not spell it out: it has "Demand 3 is stated over demand
-- 2's definition", and "demand 3's converse". Two boards with the same blank bytes can't be told apart; the converse is that two
-- with different ones can. Proved in proofs/LevelTwoHolds.antt.
use Rattle.std.specs.Prelude.{if◌then◌else◌, ◌≡◌, Bool, true, false, List, [], ◌∷◌, ℕ, ◌/◌, ◌%◌, ◌<◌, length, Option, None, Some}
use Rattle.memory.specs.Memory.{flash_size}
use Rattle.blank.specs.Blank.{SameBlank}
use Rattle.config.specs.Level.{level}
use Rattle.config.specs.declared.level.Level.TheVariants.{L2}
use Rattle.command.specs.declared.command.Command.{Command}
use Rattle.command.specs.declared.command.Command.TheVariants.{ProgramFlash, ProgramEeprom, Read, BlankCheck, EraseBlock, EraseChip, WriteByte, WriteHsb}
use Rattle.command.specs.declared.command.Command.TheVariants.{StartReset, StartAt, ReadVersion, ReadByte, ReadHsb}
use Rattle.rules.specs.Result.{Board, board, next}
use Rattle.rules.specs.Step.{Event, PowerUp, step, reports, last_sent}
use Rattle.rules.specs.Answered.{Sizes}
use Rattle.rules.specs.BenchCases.{Unnamed, download, ask_status}

-- two boards at level 2 with one session, one configuration, memories of one size, and the same blank flash bytes. P1 of 02: "two
-- boards compared still hold the same SSB", the byte itself and not only its level. P5 of 02: "demand 3 reads the busy count as part of
-- the session": it is equal at the start, and every report shows it
pub record Alike (b b' : Board) : Type 0 where
  pub at_level_2 : level b.config ≡ L2
  pub same_session : b.session ≡ b'.session
  pub same_config : b.config ≡ b'.config
  pub same_flash_size : length b.flash ≡ length b'.flash
  pub same_eeprom_size : length b.eeprom ≡ length b'.eeprom
  pub same_blank : SameBlank b.flash b'.flash

-- an accepted full chip erase, told by the command
abbrev pub is_chip_erase : Option Command → Bool
is_chip_erase None = false
is_chip_erase (Some (ProgramFlash a e)) = false
is_chip_erase (Some (ProgramEeprom a e)) = false
is_chip_erase (Some (Read r)) = false
is_chip_erase (Some (BlankCheck a e)) = false
is_chip_erase (Some (EraseBlock k)) = false
is_chip_erase (Some EraseChip) = true
is_chip_erase (Some (WriteByte i v)) = false
is_chip_erase (Some (WriteHsb v)) = false
is_chip_erase (Some StartReset) = false
is_chip_erase (Some (StartAt a)) = false
is_chip_erase (Some ReadVersion) = false
is_chip_erase (Some (ReadByte i)) = false
is_chip_erase (Some ReadHsb) = false

-- the events up to and including the first full chip erase
abbrev pub up_to_erase : Board → List Event → List Event
up_to_erase b [] = []
up_to_erase b (v ∷ vs) = v ∷ (if is_chip_erase (step b v).accepted then [] else up_to_erase (next b (step b v)) vs)

-- such boards can't be told apart by any requests and power-ups up to and including the first full chip erase: every answer,
-- session, configuration and page count is equal
abbrev pub KeptSecret : Type 0
KeptSecret = (b b' : Board) → Alike b b' → (vs : List Event) → reports b (up_to_erase b vs) ≡ reports b' (up_to_erase b' vs)

-- no accepted full chip erase in a run
abbrev pub Unerased : Board → List Event → Type 0
Unerased b [] = Unit {0}
Unerased b (v ∷ vs) = ((step b v).accepted ≡ Some EraseChip → ⊥) × Unerased (next b (step b v)) vs

-- no boards and no events are left out: `Alike` is a board at level 2 and the same board with another EEPROM of its size and another flash of
-- its size and blank bytes; a run without a full chip erase is compared to its end
pub record Spoken : Type 0 where
  pub boards : (b : Board) (f e : List ℕ) → level b.config ≡ L2 → length b.flash ≡ length f → length b.eeprom ≡ length e → SameBlank b.flash f
      → Alike b (board b.session b.config f e)
  pub runs : (b : Board) (vs : List Event) → Unerased b vs → up_to_erase b vs ≡ vs

-- with equal EEPROMs they can never be told apart, not even after a full chip erase
abbrev pub KeptSecretEver : Type 0
KeptSecretEver = (b b' : Board) → Alike b b' → b.eeprom ≡ b'.eeprom → (vs : List Event) → reports b vs ≡ reports b' vs

-- P1 of 02: "Demand 3 covers every such board": one whose SSB is neither FFh nor FEh is at level 2
abbrev pub OddBoardsCovered : Type 0
OddBoardsCovered = (b : Board) → (b.config.ssb ≡ 0xFF → ⊥) → (b.config.ssb ≡ 0xFE → ⊥) → level b.config ≡ L2

-- memories of their sizes
abbrev pub Sized : Board → Type 0
Sized b = Sizes b.flash b.eeprom

-- power-up, one blank check of the address x, and GETSTATUS
abbrev pub probe : Unnamed → ℕ → List Event
probe u x = PowerUp ∷ download u (0x03 ∷ 0x01 ∷ x / 256 ∷ x % 256 ∷ x / 256 ∷ x % 256 ∷ []) ∷ ask_status u ∷ []

-- boards with different blank bytes are told apart by one blank check: of any session and configuration, by what the host is
-- sent
abbrev pub ToldApart : Type 0
ToldApart = (b b' : Board) → Sized b → Sized b' → (SameBlank b.flash b'.flash → ⊥) → (u : Unnamed)
    → (x : ℕ) × (x < flash_size) × (last_sent b (probe u x) ≡ last_sent b' (probe u x) → ⊥)
