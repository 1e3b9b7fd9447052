-- One permitted answer of `handle`: its contract, as the code states it, is `Says` (a walked function has no `Post`: its contract is
-- `clauses`), and two answers of which `Says` holds, with the session and the lent memories after them, are equal.
-- Assumes nothing.
use mathlib.Core.Path.{◌≡◌, refl, sym, ap, ◌∙◌}
use mathlib.Core.List.{List}
use Prim.Native.Nat.{ℕ}
use lib.ListN.{length}
use seplogic.Ra.Ura.{Ura}
use base.Logic.{SProp}
use prog.Memory.{Memory}
use prog.Routine.{Routine}
use types.Logic.{Logic}
use contract.Monad.{Fun, fact}
use Rattle.config.specs.declared.config.Config.{Config}
use Rattle.rules.specs.declared.session.Session.{Session}
use Rattle.rules.specs.declared.answer.Answer.{Answer}
use Rattle.rules.specs.Result.{board}
use Rattle.rules.specs.Step.{ask}
use Rattle.rules.specs.Answered.{Handled}
use Rattle.words.proofs.OneAnswer.{one}
use Rattle.handler.specs.contracts.handler.handle as handle

-- what the contract says of a lent session s, a configuration c, setup, data and the three lent memories, of the answer r, and of the
-- session and memories after it
abbrev pub Says : Session → Config → (setup d f e p : List ℕ) → Answer → Session → (f' e' p' : List ℕ) → Type 0
Says s c setup d f e p r s' f' e' p' = Handled (board s c f e) (ask (board s c f e) setup d (length p)) r s' f' e' p' p

pub says : {M : Type 1} {𝓤 : Ura M} (𝓛 : Logic 𝓤) (at_mem : Memory → SProp 𝓤) (run : Routine → Fun 𝓤) (κs : _) (a : _) (r : Answer) (z : _)
    → (handle.clauses 𝓛 at_mem run κs a).ensures tt r z
    ≡ fact 𝓤 (let m = a.1.1 in let m' = z.1.1.1.1 in
    Says a.0.now a.1.0 m.0.now m.1.0.now m.1.1.0.now m.1.1.1.0.now m.1.1.1.1.0.now
    r z.0.now m'.0.now m'.1.0.now m'.1.1.0.now)
says 𝓛 at_mem run κs a r z = refl

pub of_handle : (s : Session) (c : Config) (setup d f e p : List ℕ) (r r₁ : Answer) (s' s₁ : Session) (f' f₁ e' e₁ p' p₁ : List ℕ)
    → Says s c setup d f e p r s' f' e' p' → Says s c setup d f e p r₁ s₁ f₁ e₁ p₁ → (r ≡ r₁) × (s' ≡ s₁) × (f' ≡ f₁) × (e' ≡ e₁) × (p' ≡ p₁)
of_handle s c setup d f e p r r₁ s' s₁ f' f₁ e' e₁ p' p₁ h k =
    let answers : r ≡ r₁ = one h.stepped.answered k.stepped.answered in (
      answers,
      h.left ∙ ap (λ (a : Answer). a.session) answers ∙ sym k.left,
      one h.stepped.flash k.stepped.flash,
      one h.stepped.eeprom k.stepped.eeprom,
      one h.stepped.reply k.stepped.reply,
    )
