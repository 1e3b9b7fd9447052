-- The other statements of specs/Busy.antt hold: GETSTATUS, state 4, starts, and which counts are admitted.
-- Assumes nothing.
use Rattle.std.specs.Prelude.{if◌then◌else◌}
use mathlib.Core.Path.{◌≡◌, refl}
use mathlib.Core.Bool.{Bool, true, false, not, ◌||◌, or-true}
use mathlib.Core.List.{List, []}
use Prim.Native.Nat.{ℕ, ◌*◌, ◌/◌, ◌%◌, ◌≤◌, ◌<◌}
use native.Mathlib.Omega.{arith}
use lib.Dec.{eqb, ltb}
use lib.ListN.{length}
use borrow.Author.Tests.{lt-ltb, le-ltb, ne_eqb}
use Rattle.words.specs.Words.{among}
use Rattle.memory.specs.Memory.{flash_size, eeprom_size}
use Rattle.rules.specs.Result.{Board, Result}
use Rattle.rules.specs.Commands.{stall}
use Rattle.rules.specs.Requests.{Request, Dnload, Upload, GetStatus, GetState, ClrStatus, Abort, Other, request_of, respond, dnload, end_download}
use Rattle.rules.specs.Requests.{clr_states, abort_states}
use Rattle.rules.specs.Requests.{entered, timeout, get_status}
use Rattle.rules.specs.Refusals.{known_state, bad_session, bad_data, reply_size, most_busy, refusal}
use Rattle.rules.specs.Step.{ask}
use Rattle.rules.specs.Busy.{Told, StatusTold, BusyTold, works, sent_from4, left_from4, AnsweredIn4}
use Rattle.rules.specs.Busy.{InState4, StartsBusy, BusyAdmitted}
use Rattle.rules.proofs.StepLaws.{empty_stalls, dnload_stalls, upload_stalls, clear_stalls, unrefused}

-- ---- GETSTATUS

module _ (b : Board) (few : b.session.busy ≤ most_busy) where
  -- a time that has three bytes
  tells : (time state : ℕ) → time ≤ 10 * most_busy → timeout b.session ≡ time → entered b.session ≡ state → Told b (get_status b) time state
  tells time state h t e = record {
    low = time % 256;
    middle = time / 256 % 256;
    high = time / 65536 % 256;
    sent = rw (t, e);
    bytes = (omega arith, omega arith, omega arith);
    together = omega arith;
    moved = e;
    status_stays = refl;
    pending_stays = refl;
  }

  told : StatusTold b (get_status b)
  told = record {
    first = λ h k. let t = lt-ltb 0 b.session.busy k in tells (10 * b.session.busy) 4 (omega arith) (rw (h, t)) (rw (h, t));
    no_pages = λ h k. tells 0 5 (omega arith) (rw (h, k)) (rw (h, k));
    second = λ h. tells 0 5 (omega arith) (rw h) (rw h);
    ended = λ h. tells 0 2 (omega arith) (rw h) (rw h);
    elsewhere = λ x y z.
        let not-3 = ne_eqb b.session.state 3 x in
        tells 0 b.session.state (omega arith) (rw not-3) (rw (not-3, ne_eqb b.session.state 4 y, ne_eqb b.session.state 6 z));
  }

pub busy_told : BusyTold
unfolding ask respond
busy_told b setup d n g q = rw (q, g) (told b (unrefused b setup d n q).few_busy)

-- ---- state 4

module _ (b : Board) (four : b.session.state ≡ 4) where
  abbrev In4 : Request → Result → Type 0
  In4 = AnsweredIn4 b.session.status

  stalls : (q : Request) → works q ≡ false → sent_from4 b.session.status q ≡ [] → left_from4 q ≡ 10 → In4 q (stall b)
  unfolding stall
  stalls q w s l = record { outcome = rw w; sent = rw s; state = rw l }

  in_4 : (d : List ℕ) (q : Request) → In4 q (respond b q d)
  unfolding respond
  in_4 d (Dnload n) = rw (dnload_stalls b n d (empty_stalls b (rw four) (rw four)) (rw four)) (stalls (Dnload n) refl refl refl)
  in_4 d (Upload n) = rw (upload_stalls b n (rw four)) (stalls (Upload n) refl refl refl)
  in_4 d GetStatus = record { outcome = refl; sent = rw four; state = rw four }
  in_4 d GetState = record { outcome = refl; sent = rw four; state = four }
  in_4 d ClrStatus = rw (clear_stalls b clr_states b.session.busy (rw four)) (stalls ClrStatus refl refl refl)
  in_4 d Abort =
      let t : among b.session.state abort_states ≡ true = rw four in
      rw t (record { outcome = refl; sent = refl; state = refl })
  in_4 d Other = stalls Other refl refl refl

pub in_state_4 : InState4
unfolding ask
in_state_4 b setup d n four q = rw q (in_4 b four d (request_of setup))

pub starts_busy : StartsBusy
unfolding ask respond dnload end_download
starts_busy b setup d n k a three p g q = rw (q, g, three, p)

-- ---- refusals

-- with a session that is refused, one of the first six numbers is given
one_to_six : (t u v w x : Bool) (z : ℕ)
    → let k : ℕ = if not t then 1 else if not u then 2 else if not v then 3 else if w then 4 else if x then 5 else if true then 6 else z in (0 < k) × (k ≤ 6)
one_to_six false u v w x z = (omega arith, omega arith)
one_to_six true false v w x z = (omega arith, omega arith)
one_to_six true true false w x z = (omega arith, omega arith)
one_to_six true true true true x z = (omega arith, omega arith)
one_to_six true true true false true z = (omega arith, omega arith)
one_to_six true true true false false z = (omega arith, omega arith)

pub busy_admitted : BusyAdmitted
unfolding refusal
busy_admitted = record {
  refuses = λ b setup d n h.
      let head : Bool = not (known_state b.session.state) || ltb 0x0F b.session.status in
      let bad : bad_session b.session ≡ true = rw (lt-ltb 256 b.session.busy h, or-true head) in
      rw bad (one_to_six (eqb (length setup) 8) (eqb (length b.flash) flash_size) (eqb (length b.eeprom) eeprom_size) (bad_data setup d)
      (ltb n reply_size) (if eqb b.session.state 0 then 7 else 0));
  admits = λ s four status pending few. rw (four, le-ltb 0x0F s.status status, pending, le-ltb 256 s.busy few);
}
