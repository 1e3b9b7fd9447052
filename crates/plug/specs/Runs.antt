-- What the statements of LevelTwo speak of: which boards are compared, what a report tells, and where a run is cut off. Proved in proofs/RunsHold.antt.
use Rattle.std.specs.Prelude.{◌≡◌, List, [], ◌∷◌, ℕ, length, Some}
use Rattle.blank.specs.Blank.{SameBlank}
use Rattle.config.specs.declared.level.Level.TheVariants.{L2}
use Rattle.plug.specs.Config.{level}
use Rattle.plug.specs.Levels.{EraseChip}
use Rattle.plug.specs.Step.{Board, Result, next, Event, take_record, report, reports, step}
use Rattle.plug.specs.LevelTwo.{Alike, sent, up_to_erase}

pub record Runs : Type 0 where
  -- of two boards that are compared nothing is asked but these four
  pub asked : (b b' : Board) → level b.config ≡ L2 → b.config.ssb ≡ b'.config.ssb → length b.flash ≡ length b'.flash
      → SameBlank b.flash b'.flash → Alike b b'
  -- two records that are reported alike have one outcome, one answer and one page count
  pub told : (r r' : Result) → report r ≡ report r' → (r.outcome ≡ r'.outcome) × (r.text ≡ r'.text) × (length r.stored ≡ length r'.stored)
  -- a run is reported record by record, each on the board that the one before it left
  pub none : (b : Board) → reports b [] ≡ []
  pub in_turn : (b : Board) (cs : List ℕ) (n : ℕ) (vs : List Event)
      → reports b (sent cs n ∷ vs) ≡ report (step b cs n) ∷ reports (next b (step b cs n)) vs
  -- it is cut off behind a full chip erase that is done, and nowhere else
  pub cut : (b : Board) (v : Event) (vs : List Event) → (take_record b v).done ≡ Some EraseChip → up_to_erase b (v ∷ vs) ≡ v ∷ []
  pub not_cut : (b : Board) (v : Event) (vs : List Event) → ((take_record b v).done ≡ Some EraseChip → ⊥)
      → up_to_erase b (v ∷ vs) ≡ v ∷ up_to_erase (next b (take_record b v)) vs
