-- 01's refusals 1 to 7 in their order, each with its cause in numbers, beside the definition of `refusal`. Proved in
-- proofs/RefusalOrderHolds.antt.
use Rattle.std.specs.Prelude.{◌⊎◌, ◌≡◌, List, [], ◌∷◌, ℕ, ◌+◌, ◌*◌, ◌≤◌, ◌<◌, length}
use Rattle.words.specs.Words.{byte_at}
use Rattle.command.specs.Ranges.{RangeRight}
use Rattle.rules.specs.Session.{Session, Pending, Nothing, MemoryRead, BlankReport, OneByte, Start}
use Rattle.rules.specs.Result.{Board}
use Rattle.rules.specs.Refusals.{refusal}

-- the number is one of these
abbrev pub In : ℕ → List ℕ → Type 0
In n [] = ⊥
In n (m ∷ ms) = (n ≡ m) ⊎ In n ms

-- what 1, 2 and 3 ask for
pub record Sized (b : Board) (setup : List ℕ) : Type 0 where
  pub setup_size_lem : length setup ≡ 8
  pub flash_size_lem : length b.flash ≡ 32768
  pub eeprom_size_lem : length b.eeprom ≡ 1024

-- what 4 asks for: "wLength bytes (bit 7 of bmRequestType clear)", "empty (set)"; wLength is "low byte first"
pub record DataRight (setup d : List ℕ) : Type 0 where
  pub from_host : byte_at setup 0 < 0x80 → length d ≡ byte_at setup 6 + 256 * byte_at setup 7
  pub to_host_lem : 0x80 ≤ byte_at setup 0 → length d ≡ 0

-- what 6 asks of what is pending: "a pending memory read is backward, outside its memory or over 1,024 bytes, or a pending blank report or
-- start address is above 7FFFh"
abbrev pub PendingRight : Pending → Type 0
PendingRight Nothing = Unit {0}
PendingRight (MemoryRead r) = RangeRight r
PendingRight (BlankReport a) = a.0 ≤ 0x7FFF
PendingRight (OneByte v) = Unit {0}
PendingRight (Start k a) = a.0 ≤ 0x7FFF

-- what 6 asks of a session: "state is none of 0, 2, 3, 5, 6, 9, 10, or status is above 0Fh"; P5 of 02: "6 now admits state 4 and refuses a
-- busy count above 256"
pub record SessionRight (s : Session) : Type 0 where
  pub state : In s.state (0 ∷ 2 ∷ 3 ∷ 4 ∷ 5 ∷ 6 ∷ 9 ∷ 10 ∷ [])
  pub status : s.status ≤ 0x0F
  pub busy : s.busy ≤ 256
  pub pending : PendingRight s.pending

-- "Checked in this order; the first that applies is given, and none without its cause."; n the size of the reply buffer
pub record RefusalOrder (b : Board) (setup d : List ℕ) (n : ℕ) : Type 0 where
  pub one : (length setup ≡ 8 → ⊥) → refusal b setup d n ≡ 1
  pub two : length setup ≡ 8 → (length b.flash ≡ 32768 → ⊥) → refusal b setup d n ≡ 2
  pub three : length setup ≡ 8 → length b.flash ≡ 32768 → (length b.eeprom ≡ 1024 → ⊥) → refusal b setup d n ≡ 3
  pub four : Sized b setup → (DataRight setup d → ⊥) → refusal b setup d n ≡ 4
  pub five : Sized b setup → DataRight setup d → n < 1024 → refusal b setup d n ≡ 5
  pub six : Sized b setup → DataRight setup d → 1024 ≤ n → (SessionRight b.session → ⊥) → refusal b setup d n ≡ 6
  pub seven : Sized b setup → DataRight setup d → 1024 ≤ n → SessionRight b.session → b.session.state ≡ 0 → refusal b setup d n ≡ 7
  -- none applies: 0
  pub none : Sized b setup → DataRight setup d → 1024 ≤ n → SessionRight b.session → (b.session.state ≡ 0 → ⊥) → refusal b setup d n ≡ 0

abbrev pub RefusalsInOrder : Type 0
RefusalsInOrder = (b : Board) (setup d : List ℕ) (n : ℕ) → RefusalOrder b setup d n
