-- Each request works in its states and stalls in the others.
-- Assumes nothing.
use mathlib.Core.Path.{◌≡◌, refl, sym, ◌∙◌, subst}
use mathlib.Core.List.{List}
use Prim.Native.Nat.{ℕ}
use borrow.Author.Tests.{ne_eqb}
use Rattle.rules.specs.Result.{Board}
use Rattle.rules.specs.Commands.{stall}
use Rattle.rules.specs.Requests.{Request, Other, request_of, respond}
use Rattle.rules.specs.Refusals.{refusal}
use Rattle.rules.specs.Step.{ask, step}
use Rattle.rules.specs.SessionAlone.{Alone}
use Rattle.rules.specs.States.{Stalls, ByState, RequestsByState, PoweredUp}
use Rattle.rules.proofs.SessionAloneHolds.{session_alone}

pub stall_told : (b : Board) → Stalls b (stall b)
unfolding stall
stall_told b = record { from_10 = λ q. rw q; elsewhere = λ h. rw (ne_eqb b.session.state 10 h) }

module _ (b : Board) (setup d : List ℕ) (n : ℕ) (passed : refusal b setup d n ≡ 0) where
  pub answered : (q : Request) → request_of setup ≡ q → ask b setup d n ≡ respond b q d
  unfolding ask
  answered q e = rw (passed, e)

  -- an answer that is a stall
  pub stalled : (q : Request) → request_of setup ≡ q → respond b q d ≡ stall b → Stalls b (ask b setup d n)
  stalled q e s = subst (Stalls b) (sym (answered q e ∙ s)) (stall_told b)

  alone : Alone b
  alone = session_alone b

  by_state : ByState b setup (ask b setup d n)
  unfolding respond
  by_state = record {
    status_asked = λ e. rw (answered _ e);
    count_cleared = λ e four. rw (answered _ e, four);
    count_kept = λ e h. rw (answered _ e, ne_eqb b.session.state 4 h);
    state_asked = λ e. answered _ e;
    cleared = λ e ten. answered _ e ∙ alone.cleared ten;
    not_cleared = λ e h. stalled _ e (alone.not_cleared h);
    aborted = λ e i. answered _ e ∙ alone.aborted i;
    not_aborted = λ e h. stalled _ e (alone.not_aborted h);
    too_long = λ m e h. stalled _ e (alone.too_long m d h);
    started = λ k a e i p. answered _ e ∙ alone.started k a d i p;
    ended = λ e five h. answered _ e ∙ alone.ended d five h;
    nothing_in_3 = λ e three h. stalled _ e (alone.nothing_in_3 d three h);
    not_ended = λ e h. stalled _ e (alone.not_ended d h);
    no_command = λ m e some_bytes h. stalled _ e (alone.no_command m d some_bytes h);
    unlisted = λ e. stalled Other e refl;
  }

pub requests_by_state : RequestsByState
requests_by_state = by_state

pub powered_up : PoweredUp
unfolding step
powered_up b = refl
