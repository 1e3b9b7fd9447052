-- P2 of 02: "Demand 3 is stated again for this crate over its own blank check, its converse where the room takes that check's
-- answer." Proved in proofs/LevelTwoHolds.antt.
use Rattle.std.specs.Prelude.{if◌then◌else◌, ◌≡◌, Bool, true, false, List, [], ◌∷◌, ℕ, ◌/◌, ◌%◌, ◌≤◌, ◌<◌, length, Option, None, Some}
use Rattle.blank.specs.Blank.{SameBlank}
use Rattle.config.specs.declared.level.Level.TheVariants.{L2}
use Rattle.lines.specs.Text.{ascii}
use Rattle.record.specs.Record.{record_of}
use Rattle.plug.specs.Config.{level}
use Rattle.plug.specs.Levels.{Command, Program, Display, BlankCheck, EraseBlock, EraseChip, Write, Read, StartReset, StartAt}
use Rattle.plug.specs.Commands.{flash_size}
use Rattle.plug.specs.Step.{Board, next, Event, take_record, report, reports, step}

-- two boards at level 2 with the same SSB, flashes of one size, and the same blank flash bytes. BSB, SBV and HSB may differ: at level 2
-- this table lets no record read them
pub record Alike (b b' : Board) : Type 0 where
  pub at_level_2 : level b.config ≡ L2
  pub same_ssb : b.config.ssb ≡ b'.config.ssb
  pub same_flash_size : length b.flash ≡ length b'.flash
  pub same_blank : SameBlank b.flash b'.flash

-- a full chip erase that is done, told by the command
abbrev pub is_chip_erase : Option Command → Bool
is_chip_erase None = false
is_chip_erase (Some (Program a)) = false
is_chip_erase (Some (Display a e)) = false
is_chip_erase (Some (BlankCheck a e)) = false
is_chip_erase (Some (EraseBlock k)) = false
is_chip_erase (Some EraseChip) = true
is_chip_erase (Some (Write s)) = false
is_chip_erase (Some (Read x)) = false
is_chip_erase (Some StartReset) = false
is_chip_erase (Some (StartAt a)) = false

-- the records up to and including the first full chip erase that is done
abbrev pub up_to_erase : Board → List Event → List Event
up_to_erase b [] = []
up_to_erase b (v ∷ vs) = v ∷ (if is_chip_erase (take_record b v).done then [] else up_to_erase (next b (take_record b v)) vs)

-- such boards can't be told apart by any records in any rooms up to and including the first full chip erase that is done
abbrev pub KeptSecret : Type 0
KeptSecret = (b b' : Board) → Alike b b' → (vs : List Event) → reports b (up_to_erase b vs) ≡ reports b' (up_to_erase b' vs)

-- with equal HSB, the one byte that a full chip erase leaves, they can never be told apart
abbrev pub KeptSecretEver : Type 0
KeptSecretEver = (b b' : Board) → Alike b b' → b.config.hsb ≡ b'.config.hsb → (vs : List Event) → reports b vs ≡ reports b' vs

-- ---- the converse

-- one blank check of the address x: the data, and the record
abbrev pub check_data : ℕ → List ℕ
check_data x = x / 256 ∷ x % 256 ∷ x / 256 ∷ x % 256 ∷ 0x01 ∷ []

abbrev pub blank_check_of : ℕ → List ℕ
blank_check_of x = record_of 0x0000 0x04 (check_data x)

-- a record sent with a room of n characters
abbrev pub sent : List ℕ → ℕ → Event
sent cs n = record { record_characters = cs; room_size = n }

-- two boards are told apart by one record in a room of n characters
abbrev pub ToldBy : List ℕ → ℕ → Board → Board → Type 0
ToldBy cs n b b' = report (step b cs n) ≡ report (step b' cs n) → ⊥

-- the room that takes the shorter of a blank check's answers, `.` CR LF
abbrev pub least_room : ℕ
least_room = 3

-- boards with different blank bytes, of any configuration, are told apart by one blank check in every room of three characters or
-- more: from six on by two answers, and below by an answer and a 9
abbrev pub ToldApart : Type 0
ToldApart = (b b' : Board) → length b.flash ≡ flash_size → length b'.flash ≡ flash_size → (SameBlank b.flash b'.flash → ⊥)
    → (x : ℕ) × (x < flash_size) × ((n : ℕ) → least_room ≤ n → ToldBy (blank_check_of x) n b b')

-- and in no smaller room: there that check gets 9 on every board of its size, whatever the address
abbrev pub NotInLess : Type 0
NotInLess = (b b' : Board) → length b.flash ≡ flash_size → length b'.flash ≡ flash_size → (x n : ℕ) → x < flash_size → n < least_room
    → report (step b (blank_check_of x) n) ≡ report (step b' (blank_check_of x) n)

-- ---- the premises are the weakest, on boards whose flash has its size

-- a read of SSB, which every level allows, a full chip erase and a read of HSB; the room that takes a byte's answer
abbrev pub read_ssb : List ℕ
read_ssb = ascii ":020000050700F2"

abbrev pub erase_all : List ℕ
erase_all = ascii ":0100000307F5"

abbrev pub read_hsb : List ℕ
read_hsb = ascii ":020000050B00EE"

abbrev pub value_room : ℕ
value_room = 5

-- boards with different SSB are told apart by one read
abbrev pub SsbTold : Type 0
SsbTold = (b b' : Board) → length b.flash ≡ flash_size → length b'.flash ≡ flash_size → (b.config.ssb ≡ b'.config.ssb → ⊥)
    → (n : ℕ) → value_room ≤ n → ToldBy read_ssb n b b'

-- boards with different HSB are told apart by one read after a full chip erase, so "for ever" asks for equal HSB
abbrev pub HsbTold : Type 0
HsbTold = (b b' : Board) → length b.flash ≡ flash_size → length b'.flash ≡ flash_size → (b.config.hsb ≡ b'.config.hsb → ⊥)
    → (m n : ℕ) → least_room ≤ m → value_room ≤ n
    → reports b (sent erase_all m ∷ sent read_hsb n ∷ []) ≡ reports b' (sent erase_all m ∷ sent read_hsb n ∷ []) → ⊥
