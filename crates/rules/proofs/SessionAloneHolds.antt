-- What is answered by the session alone: the sentences of specs/SessionAlone.antt hold.
-- Assumes nothing.
use mathlib.Core.Logic.{inl, inr}
use mathlib.Core.Path.{◌≡◌, refl}
use mathlib.Core.Bool.{Bool, true, false}
use mathlib.Core.List.{List}
use Prim.Native.Nat.{ℕ, ◌<◌}
use native.Mathlib.Omega.{arith}
use lib.Dec.{ltb}
use borrow.Author.Tests.{ne_eqb, lt-ltb}
use Rattle.words.specs.Words.{among}
use Rattle.rules.specs.Session.{Pending, Nothing, MemoryRead, BlankReport, OneByte, Start}
use Rattle.rules.specs.Result.{Board}
use Rattle.rules.specs.Commands.{stall}
use Rattle.rules.specs.Requests.{abort_states, start_states, command_states, start_pending, upload_states, most_data, dnload, upload, end_download, end_plain}
use Rattle.rules.specs.SessionAlone.{SessionAlone}
use Rattle.rules.proofs.RefusalOrderHolds.{in_among, not_among}
use Rattle.rules.proofs.StepLaws.{clear_stalls, empty_stalls}

no_start : (p : Pending) → ((k : _) (a : _) → p ≡ Start k a → ⊥) → start_pending p ≡ false
no_start Nothing h = refl
no_start (MemoryRead r) h = refl
no_start (BlankReport a) h = refl
no_start (OneByte v) h = refl
no_start (Start k a) h = absurd (h k a refl)

-- where no command is taken, whether there are too many bytes or not
no_command : (b : Board) (n : ℕ) (d : List ℕ) → 0 < n → among b.session.state command_states ≡ false → (t : Bool) → ltb most_data n ≡ t
    → dnload b n d ≡ stall b
unfolding dnload
no_command b n d some_bytes h true q = rw q
no_command b n d some_bytes h false q = rw (q, ne_eqb n 0 (λ z. omega arith), h)

pub session_alone : SessionAlone
unfolding dnload end_download end_plain upload
session_alone b = record {
  busy_in_3 = λ three h. rw (three, lt-ltb 0 b.session.busy h);
  free_in_3 = λ three z. rw (three, z);
  in_4 = λ four. rw four;
  in_6 = λ six. rw six;
  in_others = λ h. rw (
    ne_eqb b.session.state 3 (λ q. h (inl q)),
    ne_eqb b.session.state 4 (λ q. h (inr (inl q))),
    ne_eqb b.session.state 6 (λ q. h (inr (inr (inl q)))),
  );
  state_told = refl;
  cleared = λ ten. rw ten;
  not_cleared = λ h. rw (ne_eqb b.session.state 10 h);
  aborted = λ i. rw (in_among b.session.state abort_states i);
  not_aborted = λ h. clear_stalls b abort_states 0 (not_among b.session.state abort_states h);
  too_long = λ n d h. rw (lt-ltb most_data n h);
  no_command = λ n d some_bytes h. no_command b n d some_bytes (not_among b.session.state command_states h) (ltb most_data n) refl;
  started = λ k a d i p. rw (in_among b.session.state start_states i, p);
  ended = λ d five h. rw (five, no_start b.session.pending h);
  nothing_in_3 = λ d three h. empty_stalls b (rw (three, no_start b.session.pending h)) (rw three);
  not_ended = λ d h.
      empty_stalls b (rw (not_among b.session.state start_states h))
      (ne_eqb b.session.state 5 (λ q. h (inr (inl q))));
  not_sending = λ n h. rw (not_among b.session.state upload_states h);
}
