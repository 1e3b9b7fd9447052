-- The sentences of specs/Runs.antt hold.
-- Assumes nothing.
use Rattle.std.specs.Prelude.{Option, None, Some}
use mathlib.Core.Path.{◌≡◌, refl, ap}
use mathlib.Core.Bool.{false}
use Rattle.plug.specs.Levels.{Command, Program, Display, BlankCheck, EraseBlock, EraseChip, Write, Read, StartReset, StartAt}
use Rattle.plug.specs.LevelTwo.{is_chip_erase}
use Rattle.plug.specs.Runs.{Runs}

-- a command that is no full chip erase
no_erase : (o : Option Command) → (o ≡ Some EraseChip → ⊥) → is_chip_erase o ≡ false
no_erase None h = refl
no_erase (Some (Program a)) h = refl
no_erase (Some (Display a e)) h = refl
no_erase (Some (BlankCheck a e)) h = refl
no_erase (Some (EraseBlock k)) h = refl
no_erase (Some EraseChip) h = absurd (h refl)
no_erase (Some (Write s)) h = refl
no_erase (Some (Read x)) h = refl
no_erase (Some StartReset) h = refl
no_erase (Some (StartAt a)) h = refl

pub runs : Runs
runs = record {
  asked = λ b b' l s f e. record { at_level_2 = l; same_ssb = s; same_flash_size = f; same_blank = e };
  told = λ r r' q. (ap (λ x. x.outcome) q, ap (λ x. x.text) q, ap (λ x. x.page_count_lem) q);
  none = λ b. refl;
  in_turn = λ b cs n vs. refl;
  cut = λ b v vs q. rw (ap is_chip_erase q);
  not_cut = λ b v vs h. rw (no_erase _ h);
}
