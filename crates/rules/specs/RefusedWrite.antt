-- What the loader is for: a write or an erase that the level refuses leaves flash, EEPROM and configuration as they were, and is remembered
-- until CLRSTATUS. 01 has it among the errors taught: "Clearing a refused write's status at a request other than CLRSTATUS." Proved in
-- proofs/RefusedWriteHolds.antt.
use Rattle.std.specs.Prelude.{◌≡◌, List, [], ◌∷◌, ℕ, ◌≤◌, length}
use Rattle.rules.specs.Result.{Board, next}
use Rattle.rules.specs.Requests.{ClrStatus, request_of}
use Rattle.rules.specs.Refusals.{refusal}
use Rattle.rules.specs.Step.{Event, Ask, PowerUp, step, after}
use Rattle.rules.specs.RefusalOrder.{In, SessionRight}
use Rattle.rules.specs.BenchCases.{Unnamed, download, ask_status}

-- the data of a write or an erase that a board with this SSB refuses, whatever its addresses and its length
pub data Forbidden (ssb : ℕ) : List ℕ → Type 0 where
  -- "program flash or EEPROM, block erase, write HSB | yes | 03h | 03h": level 0 is SSB FFh
  program_flash_lem : (ssb ≡ 0xFF → ⊥) → (a b c d : ℕ) (rest : List ℕ) → Forbidden ssb (0x01 ∷ 0x00 ∷ a ∷ b ∷ c ∷ d ∷ rest)
  program_eeprom_lem : (ssb ≡ 0xFF → ⊥) → (a b c d : ℕ) (rest : List ℕ) → Forbidden ssb (0x01 ∷ 0x01 ∷ a ∷ b ∷ c ∷ d ∷ rest)
  erase_low : (ssb ≡ 0xFF → ⊥) → Forbidden ssb (0x04 ∷ 0x00 ∷ 0x00 ∷ [])
  erase_middle : (ssb ≡ 0xFF → ⊥) → Forbidden ssb (0x04 ∷ 0x00 ∷ 0x20 ∷ [])
  erase_high : (ssb ≡ 0xFF → ⊥) → Forbidden ssb (0x04 ∷ 0x00 ∷ 0x40 ∷ [])
  write_hsb : (ssb ≡ 0xFF → ⊥) → (v : ℕ) → Forbidden ssb (0x04 ∷ 0x02 ∷ 0x00 ∷ v ∷ [])
  -- "write SSB | FEh, FCh | FCh | 03h": level 1 is SSB FEh, and P1 of 02: "a value other than FFh and FEh is level 2"
  ssb_at_0 : ssb ≡ 0xFF → (v : ℕ) → (v ≡ 0xFE → ⊥) → (v ≡ 0xFC → ⊥) → Forbidden ssb (0x04 ∷ 0x01 ∷ 0x05 ∷ v ∷ [])
  ssb_at_1 : ssb ≡ 0xFE → (v : ℕ) → (v ≡ 0xFC → ⊥) → Forbidden ssb (0x04 ∷ 0x01 ∷ 0x05 ∷ v ∷ [])
  ssb_at_2 : (ssb ≡ 0xFF → ⊥) → (ssb ≡ 0xFE → ⊥) → (v : ℕ) → Forbidden ssb (0x04 ∷ 0x01 ∷ 0x05 ∷ v ∷ [])

-- "a command in 2 or 5": a board that takes one, of any status, pending and busy count that no refusal stops
pub record TakesCommands (b : Board) : Type 0 where
  pub in_state : In b.session.state (2 ∷ 5 ∷ [])
  pub session_right : SessionRight b.session
  pub flash_size_lem : length b.flash ≡ 32768
  pub eeprom_size_lem : length b.eeprom ≡ 1024

-- a CLRSTATUS that is not refused
pub record Clears (b : Board) (setup d : List ℕ) (n : ℕ) : Type 0 where
  pub asked : request_of setup ≡ ClrStatus
  pub not_refused : refusal b setup d n ≡ 0

-- any requests but such a CLRSTATUS, and no power-up
abbrev pub Uncleared : Board → List Event → Type 0
Uncleared b [] = Unit {0}
Uncleared b (Ask setup d n ∷ vs) = (Clears b setup d n → ⊥) × Uncleared (next b (step b (Ask setup d n))) vs
Uncleared b (PowerUp ∷ vs) = ⊥

-- of a board b and the same board later: nothing is written, and a GETSTATUS with a reply buffer large enough sends status 03h and state 10
pub record Remembered (b later : Board) : Type 0 where
  pub flash_stays : later.flash ≡ b.flash
  pub eeprom_stays : later.eeprom ≡ b.eeprom
  pub config_stays : later.config ≡ b.config
  pub status_told : (u : Unnamed) → (step later (ask_status u)).sent ≡ 0x03 ∷ 0x00 ∷ 0x00 ∷ 0x00 ∷ 0x0A ∷ 0x00 ∷ []

-- from the refused write on, after every run of such requests
abbrev pub RefusedWriteRemembered : Type 0
RefusedWriteRemembered = (b : Board) → TakesCommands b → (u : Unnamed) (d : List ℕ) → Forbidden b.config.ssb d → length d ≤ 1103
    → (vs : List Event) → Uncleared (next b (step b (download u d))) vs → Remembered b (after b (download u d ∷ vs))
