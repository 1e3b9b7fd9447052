-- The numbers and values that the job's answers tell, of every file. Proved in proofs/NumberedHolds.antt.
use Rattle.std.specs.Prelude.{◌≡◌, true, List, [], ◌∷◌, ℕ, ◌+◌, ◌-◌, ◌≤◌, ◌<◌, length, Option}
use Rattle.words.specs.Words.{among, byte_at, high_first}
use Rattle.job.specs.Verdict.{verdict, verdict_number, verdict_place}
use Rattle.job.specs.Requests.{Span}
use Rattle.job.specs.Walk.{met_tag, met_start, met_size, walk, first_met}

-- "16 file too long, first of all", with "0 for 16"; else 0 for an accepted job, or one of 11 to 15 at a place of the file
pub record VerdictsNumbered : Type 0 where
  pub too_long : (file : List ℕ) → 16384 < length file → (verdict_number (verdict file) ≡ 16) × (verdict_place (verdict file) ≡ 0)
  pub number : (file : List ℕ) → length file ≤ 16384 → among (verdict_number (verdict file)) (0 ∷ 11 ∷ 12 ∷ 13 ∷ 14 ∷ 15 ∷ []) ≡ true
  pub place : (file : List ℕ) → length file ≤ 16384 → (verdict_number (verdict file) ≡ 0 → ⊥) → verdict_place (verdict file) < length file
  pub accepted : (file : List ℕ) → verdict_number (verdict file) ≡ 0 → verdict_place (verdict file) ≡ 0

-- a request that the walk meets from a place on: its tag, 01h, and its length stand before its value, which lies in the file
pub record MetTold (file : List ℕ) (at : ℕ) (m : Option Span) : Type 0 where
  pub behind : met_tag m ≡ 0x01 → at + 3 ≤ met_start m
  pub tag : met_tag m ≡ 0x01 → byte_at file (met_start m - 3) ≡ 0x01
  pub size : met_tag m ≡ 0x01 → high_first file (met_start m - 2) ≡ met_size m
  pub in_file : met_tag m ≡ 0x01 → met_start m + met_size m ≤ length file
  pub no_more : met_tag m ≡ 0 → walk file at ≡ []

abbrev pub MetNumbered : Type 0
MetNumbered = (file : List ℕ) (at : ℕ) → MetTold file at (first_met (walk file at))
