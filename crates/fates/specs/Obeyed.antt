-- How the code tells what became of a command, and the memories after it; and what it is handed. Assumes nothing: these are definitions.
use Rattle.std.specs.Prelude.{◌≡◌, List, ℕ, Some, Result, Ok, Err}
use Rattle.memory.specs.Pages.{store_all}
use Rattle.rules.specs.Result.{Board, answer, patch_all}
use Rattle.rules.specs.Commands.{accept}
use Rattle.rules.specs.Answered.{Sizes}
use Rattle.command.specs.declared.command.Command.{Command}
use Rattle.reader.specs.Payload.{Fit, judgement}
use Rattle.rules.specs.declared.answer.Answer.{Answer}
use Rattle.fates.specs.Fate.{Fate, Failure}

-- the answer of a command that is taken, or its failure
abbrev pub Obeyed : Type 0
Obeyed = Result Answer Failure

abbrev pub told_as : Fate → Obeyed
told_as (Ok t) = Ok (answer (accept t.0 t.1))
told_as (Err s) = Err s

abbrev pub flash_after : Fate → List ℕ → List ℕ
flash_after (Ok t) m = store_all t.1.stored m
flash_after (Err s) m = m

abbrev pub eeprom_after : Fate → List ℕ → List ℕ
eeprom_after (Ok t) m = patch_all t.1.patched m
eeprom_after (Err s) m = m

-- the command of fate x is told as o, and the memories f and e are those after it
pub record Fated (b : Board) (x : Fate) (o : Obeyed) (f e : List ℕ) : Type 0 where
  pub told : o ≡ told_as x
  pub flash : f ≡ flash_after x b.flash
  pub eeprom : e ≡ eeprom_after x b.eeprom

-- memories of their sizes, and data d that is the command k and fits it as x says
pub record Judged (k : Command) (x : Fit) (d f e : List ℕ) : Type 0 where
  pub sizes : Sizes f e
  pub judged : judgement d ≡ Some (k, x)
