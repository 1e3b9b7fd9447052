-- Each way through `fate`, and that it does not hang on the session.
-- Assumes nothing.
use Rattle.std.specs.Prelude.{Option, None, Some, Ok, Err, IsErrAnd}
use Rattle.std.specs.Option.{ok_or}
use Rattle.std.proofs.lemmas.Result.{err_from_is_err_and}
use mathlib.Core.Logic.{◌⊎◌, inl, inr}
use native.Mathlib.Omega.{arith}
use mathlib.Core.Path.{◌≡◌, refl, sym, ap, ◌∙◌}
use mathlib.Core.Bool.{true, false, and-false}
use mathlib.Core.List.{List}
use Prim.Native.Nat.{ℕ}
use lib.Dec.{eqb}
use lib.ListN.{length}
use borrow.Author.Tests.{eq-eqb, ne_eqb}
use Rattle.memory.specs.Memory.{flash_size, eeprom_size}
use Rattle.config.specs.Level.{level}
use Rattle.config.specs.declared.config.Config.{Config}
use Rattle.command.specs.Form.{form}
use Rattle.command.specs.Reader.{parts_of}
use Rattle.command.specs.declared.reader.Parts.{Parts}
use Rattle.command.specs.declared.command.Command.{Command}
use Rattle.command.specs.declared.command.Command.TheVariants.{ProgramFlash, ProgramEeprom, Read, BlankCheck, EraseBlock, EraseChip, WriteByte, WriteHsb}
use Rattle.command.specs.declared.command.Command.TheVariants.{StartReset, StartAt, ReadVersion, ReadByte, ReadHsb}
use Rattle.reader.specs.Payload.{Fit, Judgement, fit, judgement}
use Rattle.reader.specs.declared.payload.Misfit.{Misfit}
use Rattle.reader.specs.declared.payload.Misfit.TheVariants.{BadAddress, WrongLength}
use Rattle.reader.proofs.PayloadLaws.{judged_is, judged_unlisted, fit_tells}
use Rattle.rules.specs.Session.{idle}
use Rattle.rules.specs.declared.session.Session.{Session}
use Rattle.rules.specs.declared.answer.Answer.{Answer}
use Rattle.rules.specs.Levels.{level_status}
use Rattle.rules.specs.Result.{Board, board}
use Rattle.rules.specs.Commands.{perform, accept}
use Rattle.rules.specs.Answered.{Answered, Sizes, Acceptable}
use Rattle.fates.specs.Fate.{Fate, Failure, Sets, Stops, failure_of, fate, fate_of, sized, sized_fate, SizedFates}
use Rattle.fates.specs.Obeyed.{Obeyed, Fated, Judged}

-- what a command does, whatever the session
perform_session : (s t : Session) (c : Config) (f e d : List ℕ) (k : Command) → perform (board s c f e) k d ≡ perform (board t c f e) k d
unfolding perform
perform_session s t c f e d (ProgramFlash x y) = refl
perform_session s t c f e d (ProgramEeprom x y) = refl
perform_session s t c f e d (Read r) = refl
perform_session s t c f e d (BlankCheck x y) = refl
perform_session s t c f e d (EraseBlock k) = refl
perform_session s t c f e d EraseChip = refl
perform_session s t c f e d (WriteByte i v) = refl
perform_session s t c f e d (WriteHsb v) = refl
perform_session s t c f e d StartReset = refl
perform_session s t c f e d (StartAt a) = refl
perform_session s t c f e d ReadVersion = refl
perform_session s t c f e d (ReadByte i) = refl
perform_session s t c f e d ReadHsb = refl

-- so what becomes of it does not hang on the session
pub fate_session : (s t : Session) (c : Config) (f e d : List ℕ) (o : Option Command) → fate_of (board s c f e) o d ≡ fate_of (board t c f e) o d
unfolding fate
fate_session s t c f e d None = refl
fate_session s t c f e d (Some k) = rw (perform_session s t c f e d k)

-- the level's status, then the address, at last the length, of a command that was judged
module _ (c : Config) (k : Command) (x : Fit) (d f e : List ℕ) (status : ℕ) (told : status ≡ level_status k (level c)) where
  abbrev b : Board
  b = board idle c f e

  pub forbidden : (status ≡ 0 → ⊥) → Fated b (fate b k d) (Err (Sets status)) f e
  unfolding fate
  forbidden h =
      let t : eqb (level_status k (level c)) 0 ≡ false = ne_eqb _ 0 (λ z. h (told ∙ z)) in
      rw t (record { told = ap (λ s. Err (Sets s)) told; flash = refl; eeprom = refl })

  module _ (allowed : status ≡ 0) (h : Judged k x d f e) where
    yes_level : eqb (level_status k (level c)) 0 ≡ true
    yes_level = eq-eqb _ 0 (sym told ∙ allowed)

    as_judged : fit k (length d) ≡ x
    as_judged = (judged_is d k x h.judged).1

    misfit_told : (m : Misfit) → x ≡ Err m → Fated b (fate b k d) (Err (failure_of m)) f e
    unfolding fate
    misfit_told BadAddress q = rw (yes_level, fit_tells k d (Err BadAddress) (as_judged ∙ q)) (record { told = refl; flash = refl; eeprom = refl })
    misfit_told WrongLength q =
        let w = fit_tells k d (Err WrongLength) (as_judged ∙ q) in
        rw (yes_level, w.0, w.1) (record { told = refl; flash = refl; eeprom = refl })

    -- what its `?` returns of a command that does not fit
    pub misfits : (m : Misfit) (o : Obeyed) → x ≡ Err m → IsErrAnd o (λ r. r ≡ failure_of m) → Fated b (fate b k d) o f e
    misfits m (Ok a) q h = absurd h
    misfits m (Err r) q h = rw h (misfit_told m q)

    pub performed : {a : Answer} {p : Parts} {f' e' : List ℕ} → x ≡ Ok p
        → Answered b (accept k (perform b k d)) a f' e' → Fated b (fate b k d) (Ok a) f' e'
    unfolding fate
    performed {p = p} q r =
        let w = fit_tells k d (Ok p) (as_judged ∙ q) in
        rw (yes_level, w.0, w.1) (record { told = ap Ok r.answered; flash = r.flash; eeprom = r.eeprom })

-- what fits its data can be performed
pub acceptable : (k : Command) (x : Fit) (p : Parts) (d f e : List ℕ) → Judged k x d f e → x ≡ Ok p → Acceptable k d f e × (p ≡ parts_of k d)
acceptable k x p d f e h q =
    let of = judged_is d k x h.judged in
    let w = fit_tells k d (Ok p) (of.1 ∙ q) in
    (record { sizes = h.sizes; formed = of.0; address_right = w.0; length_right = w.1 }, w.2)

-- memories of their sizes, and others
module _ (b : Board) where
  pub sized_yes : Sizes b.flash b.eeprom → sized b ≡ true
  sized_yes s = rw (eq-eqb (length b.flash) flash_size s.flash_size_lem, eq-eqb (length b.eeprom) eeprom_size s.eeprom_size_lem)

  pub sized_flash : (length b.flash ≡ flash_size → ⊥) → sized b ≡ false
  sized_flash h = rw (ne_eqb (length b.flash) flash_size h)

  pub sized_eeprom : (length b.eeprom ≡ eeprom_size → ⊥) → sized b ≡ false
  sized_eeprom h = rw (ne_eqb (length b.eeprom) eeprom_size h, and-false (eqb (length b.flash) flash_size))

module _ (b : Board) (d : List ℕ) where
  sized_fate_lem : Sizes b.flash b.eeprom → sized_fate b d ≡ fate_of b (form d) d
  unfolding sized_fate
  sized_fate_lem s = rw (sized_yes b s)

  pub listed : Sizes b.flash b.eeprom → (k : Command) (x : Fit) → judgement d ≡ Some (k, x) → sized_fate b d ≡ fate b k d
  listed s k x q = sized_fate_lem s ∙ ap (λ o. fate_of b o d) (judged_is d k x q).0

  unlisted : Sizes b.flash b.eeprom → judgement d ≡ None → sized_fate b d ≡ Err Stops
  unlisted s q = sized_fate_lem s ∙ ap (λ o. fate_of b o d) (judged_unlisted d q)

  other_flash : (length b.flash ≡ flash_size → ⊥) → sized_fate b d ≡ Err Stops
  unfolding sized_fate
  other_flash h = rw (sized_flash b h)

  other_eeprom : (length b.eeprom ≡ eeprom_size → ⊥) → sized_fate b d ≡ Err Stops
  unfolding sized_fate
  other_eeprom h = rw (sized_eeprom b h)

  pub other_sizes : (length b.flash ≡ flash_size → ⊥) ⊎ ((length b.flash ≡ flash_size) × (length b.eeprom ≡ eeprom_size → ⊥)) → sized_fate b d ≡ Err Stops
  other_sizes (inl h) = other_flash h
  other_sizes (inr h) = other_eeprom h.1

pub sized_fates : SizedFates
sized_fates = record {
  of_its_sizes = λ b d f e. sized_fate_lem b d (record { flash_size_lem = f; eeprom_size_lem = e });
  other_flash = other_flash;
  other_eeprom = other_eeprom;
}

pub stops : (b : Board) (x : Fate) → x ≡ Err Stops → Fated b x (Err Stops) b.flash b.eeprom
stops b x q = rw q (record { told = refl; flash = refl; eeprom = refl })

-- what its `?` returns where the data is no command
pub ended : (b : Board) (d : List ℕ) → Sizes b.flash b.eeprom → (j : Judgement) (r : Failure) (o : Obeyed)
    → judgement d ≡ j → ok_or j Stops ≡ Err r → IsErrAnd o (λ s. s ≡ r) → Fated b (sized_fate b d) o b.flash b.eeprom
ended b d s None r o q e h =
    let told = err_from_is_err_and o h in
    let stop : r ≡ Stops = cc in
    rw (told.1, told.2, stop) (stops b (sized_fate b d) (unlisted b d s q))
ended b d s (Some j) r o q e h = absurd (let z : ◌≡◌ {A = ℕ} 0 1 = cc in omega arith)
