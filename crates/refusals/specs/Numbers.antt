-- The paper's numbers of the refusals, 1 to 7. Assumes nothing: these are definitions and a statement.
use Rattle.std.specs.Prelude.{◌≡◌, ℕ, Result, Ok, Err}
pub use Rattle.refusals.specs.declared.refusal.Refusal.{Refusal}
pub use Rattle.refusals.specs.declared.refusal.Refusal.TheVariants.{Setup, Flash, Eeprom, Data, Reply, Session, ApplicationRuns}

-- the number in the paper's table
abbrev pub refusal_number : Refusal → ℕ
refusal_number Setup = 1
refusal_number Flash = 2
refusal_number Eeprom = 3
refusal_number Data = 4
refusal_number Reply = 5
refusal_number Session = 6
refusal_number ApplicationRuns = 7

-- what an answer tells: the number of its refusal, and 0 where there is none
abbrev pub number_told : Result (Unit {0}) Refusal → ℕ
number_told (Ok _) = 0
number_told (Err r) = refusal_number r

-- each refusal by its number and its cause in the paper, and none by 0
pub record RefusalsNumbered : Type 0 where
  -- "setup is not 8 bytes"
  pub setup : refusal_number Setup ≡ 1
  -- "flash is not 32,768 bytes"
  pub flash : refusal_number Flash ≡ 2
  -- "EEPROM is not 1,024 bytes"
  pub eeprom : refusal_number Eeprom ≡ 3
  -- "data is not wLength bytes .., or not empty"
  pub data_lem : refusal_number Data ≡ 4
  -- "reply buffer is under 1,024 bytes"
  pub reply : refusal_number Reply ≡ 5
  -- "state is none of .."
  pub session : refusal_number Session ≡ 6
  -- "state is 0: the application runs"
  pub application_runs : refusal_number ApplicationRuns ≡ 7
  pub told : (r : Refusal) → number_told (Err r) ≡ refusal_number r
  pub none : number_told (Ok tt) ≡ 0
  -- no two answers tell one number
  pub told_apart : (x y : Result (Unit {0}) Refusal) → number_told x ≡ number_told y → x ≡ y
