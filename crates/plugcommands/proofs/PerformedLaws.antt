-- The statement of specs/Performed.antt holds, command by command.
-- Assumes nothing.
use mathlib.Core.Path.{◌≡◌, refl}
use mathlib.Core.List.{List}
use Prim.Native.Nat.{ℕ}
use Rattle.memory.specs.declared.address.FlashAddress.{FlashAddress}
use Rattle.plug.specs.declared.command.Command.{Command}
use Rattle.plug.specs.declared.command.Command.TheVariants.{Program, Display, BlankCheck, EraseBlock, EraseChip, Write, Read, StartReset, StartAt}
use Rattle.plug.specs.Step.{Board, perform}
use Rattle.plugcommands.specs.Performed.{performed, PerformedTold}

other : (b : Board) (k : Command) (d : List ℕ) → ((a e : FlashAddress) → k ≡ Display a e → ⊥) → performed b k d ≡ perform b k d
other b (Program a) d h = refl
other b (Display a e) d h = absurd (h a e refl)
other b (BlankCheck a e) d h = refl
other b (EraseBlock k) d h = refl
other b EraseChip d h = refl
other b (Write s) d h = refl
other b (Read x) d h = refl
other b StartReset d h = refl
other b (StartAt a) d h = refl

pub performed_told : PerformedTold
performed_told = record { display = λ b a e d. refl; other = other }
