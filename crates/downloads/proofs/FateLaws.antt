-- What DNLOAD answers for what becomes of a command.
-- Assumes nothing.
use Rattle.std.specs.Prelude.{if◌then◌else◌, Option, None, Some, Ok, Err}
use mathlib.Core.Path.{◌≡◌, refl, sym, ap, ◌∙◌, subst}
use mathlib.Core.Bool.{Bool, true, false}
use mathlib.Core.List.{List, []}
use Prim.Native.Nat.{ℕ}
use Rattle.config.specs.Level.{level}
use Rattle.config.specs.declared.config.Config.{Config}
use Rattle.command.specs.Address.{bad_address, bad_address_status}
use Rattle.command.specs.Transfer.{bad_length}
use Rattle.command.specs.Form.{form}
use Rattle.command.specs.declared.command.Command.{Command}
use Rattle.rules.specs.Session.{session, idle}
use Rattle.rules.specs.declared.session.Session.{Session}
use Rattle.rules.specs.declared.session.Pending.TheVariants.{Nothing}
use Rattle.rules.specs.declared.answer.Answer.{Answer}
use Rattle.rules.specs.declared.answer.Outcome.TheVariants.{Done}
use Rattle.rules.specs.Levels.{level_status}
use Rattle.rules.specs.Result.{Board, board, next, answer, reply}
use Rattle.rules.specs.Commands.{Effect, stall, set_status, accept, perform, forbidden, obey, obey_form}
use Rattle.rules.specs.Answered.{bare, Answered}
use Rattle.fates.specs.declared.fate.Failure.TheVariants.{Sets, Stops}
use Rattle.fates.specs.Fate.{Fate, fate, fate_of, sized, sized_fate}
use Rattle.fates.specs.Obeyed.{Obeyed, flash_after, eeprom_after, Fated}
use Rattle.fates.proofs.FateLaws.{fate_session}
use Rattle.downloads.specs.Download.{result_of, FatesObeyed}

-- the order of the tests is that of the rules
tests : (b : Board) (k : Command) (t v w : Bool) (x y : ℕ) (z : Effect)
    → result_of b (if t then Err (Sets x) else if v then Err (Sets y) else if w then Err Stops else Ok (k, z))
    ≡ (if t then set_status b x else if v then set_status b y else if w then stall b else accept k z)
tests b k true v w x y z = refl
tests b k false true w x y z = refl
tests b k false false true x y z = refl
tests b k false false false x y z = refl

obeys : (b : Board) (o : Option Command) (d : List ℕ) → result_of b (fate_of b o d) ≡ obey_form b o d
unfolding fate obey
obeys b None d = refl
obeys b (Some k) d =
    tests b k (forbidden b k) (bad_address k) (bad_length k d) (level_status k (level b.config)) bad_address_status (perform b k d)

-- the memories after a fate are those after its result
module _ (b : Board) where
  flash_after_lem : (x : Fate) → flash_after x b.flash ≡ (next b (result_of b x)).flash
  unfolding stall
  flash_after_lem (Ok t) = refl
  flash_after_lem (Err (Sets s)) = refl
  flash_after_lem (Err Stops) = refl

  eeprom_after_lem : (x : Fate) → eeprom_after x b.eeprom ≡ (next b (result_of b x)).eeprom
  unfolding stall
  eeprom_after_lem (Ok t) = refl
  eeprom_after_lem (Err (Sets s)) = refl
  eeprom_after_lem (Err Stops) = refl

pub fates_obeyed : FatesObeyed
fates_obeyed = record {
  result = obeys;
  flash = λ b o d. flash_after_lem b (fate_of b o d) ∙ ap (λ r. (next b r).flash) (obeys b o d);
  eeprom = λ b o d. eeprom_after_lem b (fate_of b o d) ∙ ap (λ r. (next b r).eeprom) (obeys b o d);
  said = λ b x o f e h. (h.told, h.flash, h.eeprom);
  taken = λ b k x. refl;
  status = λ s. refl;
  stalled = refl;
}

by_size : (b : Board) (t : Bool) (d : List ℕ) → result_of b (if t then fate_of b (form d) d else Err Stops) ≡ (if t then obey_form b (form d) d else stall b)
by_size b true d = obeys b (form d) d
by_size b false d = refl

pub sized_obeys : (b : Board) (d : List ℕ) → result_of b (sized_fate b d) ≡ (if sized b then obey_form b (form d) d else stall b)
unfolding sized_fate
sized_obeys b d = by_size b (sized b) d

-- the answer to a fate as the code tells it
abbrev answer_for : Session → Config → Obeyed → Answer
answer_for s c (Ok a) = a
answer_for s c (Err (Sets status)) = answer (reply c Done [] (session 10 status Nothing s.busy))
answer_for s c (Err Stops) = answer (stall (bare s c))

-- what is done with an idle board's command is done with this one's
module _ (s : Session) (c : Config) (f e d : List ℕ) {o : Obeyed} {f' e' : List ℕ}
    (h : Fated (board idle c f e) (sized_fate (board idle c f e) d) o f' e') where
  abbrev b : Board
  b = board s c f e

  same_fate : sized_fate (board idle c f e) d ≡ sized_fate b d
  unfolding sized_fate
  same_fate = ap (λ x. if sized b then x else Err Stops) (fate_session idle s c f e d (form d))

  -- the answer is that of the fate as it is told
  by_fate : (x : Fate) (a : Answer) → Fated (board idle c f e) x o f' e' → a ≡ answer_for s c o → Answered b (result_of b x) a f' e'
  unfolding stall
  by_fate (Ok t) a u q = record { answered = q ∙ ap (answer_for s c) u.told; flash = u.flash; eeprom = u.eeprom }
  by_fate (Err (Sets n)) a u q = record { answered = q ∙ ap (answer_for s c) u.told; flash = u.flash; eeprom = u.eeprom }
  by_fate (Err Stops) a u q = record { answered = q ∙ ap (answer_for s c) u.told; flash = u.flash; eeprom = u.eeprom }

  pub answers : (a : Answer) (o' : Obeyed) → o ≡ o' → a ≡ answer_for s c o' → Answered b (result_of b (sized_fate b d)) a f' e'
  answers a o' told q =
      subst (λ x. Answered b (result_of b x) a f' e') same_fate (by_fate (sized_fate (board idle c f e) d) a h (q ∙ ap (answer_for s c) (sym told)))
