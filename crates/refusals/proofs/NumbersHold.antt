-- The refusals have the paper's numbers, and no two share one.
-- Assumes nothing.
use Rattle.std.specs.Prelude.{if◌then◌else◌, ◌==◌, Result, Ok, Err}
use mathlib.Core.Path.{◌≡◌, refl, sym, ap, ◌∙◌}
use Prim.Native.Nat.{ℕ}
use native.Mathlib.Omega.{arith}
use Rattle.refusals.specs.Numbers.{Refusal, Setup, Flash, Eeprom, Data, Reply, Session, ApplicationRuns, refusal_number, number_told, RefusalsNumbered}

-- the answer that tells a number
by_number : ℕ → Result (Unit {0}) Refusal
by_number n =
    if n == 1 then Err Setup else
    if n == 2 then Err Flash else
    if n == 3 then Err Eeprom else
    if n == 4 then Err Data else
    if n == 5 then Err Reply else
    if n == 6 then Err Session else
    if n == 7 then Err ApplicationRuns else Ok tt

back : (x : Result (Unit {0}) Refusal) → by_number (number_told x) ≡ x
unfolding by_number
back (Ok u) = refl
back (Err Setup) = refl
back (Err Flash) = refl
back (Err Eeprom) = refl
back (Err Data) = refl
back (Err Reply) = refl
back (Err Session) = refl
back (Err ApplicationRuns) = refl

-- a refusal's number is not that of none
pub never_0 : (r : Refusal) → refusal_number r ≡ 0 → ⊥
never_0 Setup h = omega arith
never_0 Flash h = omega arith
never_0 Eeprom h = omega arith
never_0 Data h = omega arith
never_0 Reply h = omega arith
never_0 Session h = omega arith
never_0 ApplicationRuns h = omega arith

pub refusals_numbered : RefusalsNumbered
refusals_numbered = record {
  setup = refl;
  flash = refl;
  eeprom = refl;
  data_lem = refl;
  reply = refl;
  session = refl;
  application_runs = refl;
  told = λ r. refl;
  none = refl;
  told_apart = λ x y h. sym (back x) ∙ ap by_number h ∙ back y;
}
