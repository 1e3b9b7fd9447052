-- The statements of specs/Busy.antt on the busy count hold: what becomes of it, and where it stands. Each goes through the rules once, a test
-- at a time.
-- Assumes nothing.
use Rattle.std.specs.Prelude.{if◌then◌else◌, Option, None, Some}
use mathlib.Core.Logic.{◌⊎◌, inl, inr}
use mathlib.Core.Path.{◌≡◌, refl, sym, ap, ◌∙◌, subst}
use mathlib.Core.Bool.{Bool, true, false, ◌||◌, ◌&&◌, and-false}
use mathlib.Core.List.{List, []}
use Prim.Native.Nat.{ℕ}
use native.Mathlib.Omega.{arith}
use lib.Dec.{eqb, ltb}
use lib.ListN.{length}
use borrow.Author.Tests.{eqb-true, ltb-false}
use Rattle.words.specs.Words.{among}
use Rattle.blank.specs.Blank.{used_in}
use Rattle.config.specs.Level.{level}
use Rattle.command.specs.Form.{form}
use Rattle.command.specs.Address.{bad_address, bad_address_status}
use Rattle.command.specs.Transfer.{bad_length}
use Rattle.command.specs.declared.command.Command.{Command}
use Rattle.command.specs.declared.command.Command.TheVariants.{ProgramFlash, ProgramEeprom, Read, BlankCheck, EraseBlock, EraseChip, WriteByte, WriteHsb}
use Rattle.command.specs.declared.command.Command.TheVariants.{StartReset, StartAt, ReadVersion, ReadByte, ReadHsb}
use Rattle.rules.specs.Session.{Session, session, idle_with, Pending, Nothing, MemoryRead, BlankReport, OneByte, Start}
use Rattle.rules.specs.Levels.{level_status}
use Rattle.rules.specs.Result.{Board, Result, reply, pages, Outcome, Done, Stall, Started, Refused}
use Rattle.rules.specs.Commands.{stall, set_status, Effect, perform, accept, forbidden, obey, obey_form}
use Rattle.rules.specs.Requests.{Request, Dnload, Upload, GetStatus, GetState, ClrStatus, Abort, Other, request_of, respond, dnload, end_plain, end_download}
use Rattle.rules.specs.Requests.{start_states, start_pending, start_of, command_states, clr_states, abort_states, clear_in, most_data}
use Rattle.rules.specs.Requests.{get_status, upload_states, sendable, pending_count, pending_after, send, upload}
use Rattle.rules.specs.Refusals.{refusal}
use Rattle.rules.specs.Step.{Ask, PowerUp, ask, step}
use Rattle.rules.specs.Busy.{clears, count_after, BusyCounted, busy_states, Own, OwnStays}
use Rattle.rules.proofs.StepLaws.{through, empty_stalls, dnload_stalls, upload_stalls, clear_stalls}
use Rattle.rules.proofs.PerformLaws.{blank_stored}
use Rattle.rules.proofs.Shape.{Shape, refused, still, did, shape}

-- ---- what becomes of the count

abbrev Counted : Board → Request → Result → Type 0
Counted b q r = r.session.busy ≡ count_after b.session q r.outcome r.accepted (pages r)

counted_stall : (b : Board) (q : Request) → Counted b q (stall b)
unfolding stall
counted_stall b q = refl

-- an UPLOAD that sends keeps it, whether more remains or not
counted_send : (b : Board) (n : ℕ) (p : Pending) → Counted b (Upload n) (send b n p)
unfolding send
counted_send b n p = go (ltb n (pending_count p))
  where
    go : (t : Bool) → (if t then session 9 0x00 (pending_after n p) b.session.busy else session 2 0x00 Nothing b.session.busy).busy ≡ b.session.busy
    go true = refl
    go false = refl

module _ (b : Board) (d : List ℕ) (n : ℕ) where
  abbrev Sent : Result → Type 0
  Sent = Counted b (Dnload n)

  stalled : Sent (stall b)
  stalled = counted_stall b (Dnload n)

  -- an error status keeps it, and an accepted command sets it
  counted_status : (status : ℕ) → Sent (set_status b status)
  counted_status status = refl

  counted_accept : (k : Command) (x : Effect) → Sent (accept k x)
  counted_accept k x = refl

  counted_form : (o : Option Command) → Sent (obey_form b o d)
  unfolding obey
  counted_form None = stalled
  counted_form (Some k) =
      through Sent (forbidden b k) (counted_status (level_status k (level b.config))) (through Sent (bad_address k) (counted_status bad_address_status)
      (through Sent (bad_length k d) stalled (counted_accept k (perform b k d))))

  -- an empty DNLOAD that starts or ends keeps it
  counted_kept : (state : ℕ) (p : Pending) → Sent (reply b.config (start_of p) [] (session state b.session.status Nothing b.session.busy))
  counted_kept state Nothing = refl
  counted_kept state (MemoryRead r) = refl
  counted_kept state (BlankReport a) = refl
  counted_kept state (OneByte v) = refl
  counted_kept state (Start k a) = refl

  counted_empty : Sent (end_download b)
  unfolding end_download end_plain
  counted_empty =
      through Sent (among b.session.state start_states && start_pending b.session.pending) (counted_kept 0 b.session.pending)
      (through Sent (eqb b.session.state 5) (counted_kept 6 Nothing) stalled)

  counted_dnload : Sent (dnload b n d)
  unfolding dnload
  counted_dnload =
      through Sent (ltb most_data n) stalled (through Sent (eqb n 0) counted_empty
      (through Sent (among b.session.state command_states) (counted_form (form d)) stalled))

-- CLRSTATUS keeps it and ABORT clears it
counted_clear : (b : Board) (q : Request) (states : List ℕ) (busy : ℕ) → Counted b q (reply b.config Done [] (idle_with busy))
    → Counted b q (clear_in states busy b)
counted_clear b q states busy h = through (Counted b q) (among b.session.state states) h (counted_stall b q)

counted : (b : Board) (d : List ℕ) (q : Request) → Counted b q (respond b q d)
unfolding respond upload
counted b d (Dnload n) = counted_dnload b d n
counted b d (Upload n) =
    through (Counted b (Upload n)) (among b.session.state upload_states && ltb 0 n && sendable b.session.pending (level b.config))
    (counted_send b n b.session.pending) (counted_stall b (Upload n))
counted b d GetStatus = refl
counted b d GetState = refl
counted b d ClrStatus = counted_clear b ClrStatus clr_states _ refl
counted b d Abort = counted_clear b Abort abort_states 0 refl
counted b d Other = counted_stall b Other

-- a refusal keeps it
counted_refused : (b : Board) (q : Request) (k : ℕ) → Counted b q (reply b.config (Refused k) [] b.session)
counted_refused b q k = refl

pub busy_counted : BusyCounted
unfolding step ask
busy_counted b (Ask setup d n) =
    let q : Request = request_of setup in
    through (Counted b q) (eqb (refusal b setup d n) 0) (counted b d q) (counted_refused b q (refusal b setup d n))
busy_counted b PowerUp = refl

-- ---- where a count stands

-- a command that leaves something pending stores no page
alone : (b : Board) (k : Command) (d : List ℕ) → (length (perform b k d).stored ≡ 0) ⊎ ((perform b k d).pending ≡ Nothing)
unfolding perform
alone b (ProgramFlash a e) d = inr refl
alone b (ProgramEeprom a e) d = inr refl
alone b (Read r) d = inl refl
alone b (BlankCheck a e) d = inl (ap length (blank_stored b.config (used_in a.0 e.0 b.flash)))
alone b (EraseBlock k) d = inr refl
alone b EraseChip d = inr refl
alone b (WriteByte i v) d = inr refl
alone b (WriteHsb v) d = inr refl
alone b StartReset d = inl refl
alone b (StartAt a) d = inl refl
alone b ReadVersion d = inl refl
alone b (ReadByte i) d = inl refl
alone b ReadHsb d = inl refl

-- an accepted command leaves such a session
own_accept : (b : Board) (k : Command) (d : List ℕ) → Own (accept k (perform b k d)).session
own_accept b k d = either (alone b k d)
  where
    either : (length (perform b k d).stored ≡ 0) ⊎ ((perform b k d).pending ≡ Nothing) → Own (accept k (perform b k d)).session
    either (inl z) = inl z
    either (inr p) = inr (refl, p)

-- where no page was waited for, none is unless a command was accepted
none_kept : (s : Session) (q : Request) (o : Outcome) (n : ℕ) → s.busy ≡ 0 → count_after s q o None n ≡ 0
none_kept s q Done n z = go (clears s.state q)
  where
    go : (t : Bool) → (if t then 0 else s.busy) ≡ 0
    go true = refl
    go false = z
none_kept s q Stall n z = refl
none_kept s q (Started j a) n z = z
none_kept s q (Refused m) n z = z

own : Result → Type 0
own r = Own r.session

own_stall : (b : Board) → own (stall b)
unfolding own stall
own_stall b = inl refl

-- with a count above 0: GETSTATUS moves from 3 to 4 or clears it, GETSTATE keeps all, and the rest clears it
own_status_3 : (b : Board) → b.session.state ≡ 3 → b.session.pending ≡ Nothing → (t : Bool) → ltb 0 b.session.busy ≡ t → own (get_status b)
unfolding own
own_status_3 b three p true q = inr (rw (three, q), p)
own_status_3 b three p false q = inl (rw three (let few = ltb-false 0 b.session.busy q in omega arith))

own_status_4 : (b : Board) → b.session.state ≡ 4 → own (get_status b)
unfolding own
own_status_4 b four = inl (rw four)

module _ (b : Board) (t : among b.session.state busy_states ≡ true) (p : b.session.pending ≡ Nothing) (not-5 : eqb b.session.state 5 ≡ false)
    (no_command : among b.session.state command_states ≡ false) (no-upload : among b.session.state upload_states ≡ false)
    (no-clr : among b.session.state clr_states ≡ false) (status : own (get_status b)) where
  no_start : (among b.session.state start_states && start_pending b.session.pending) ≡ false
  no_start = rw (p, and-false (among b.session.state start_states))

  own_respond : (d : List ℕ) (q : Request) → own (respond b q d)
  unfolding respond own
  own_respond d (Dnload n) = rw (dnload_stalls b n d (empty_stalls b no_start not-5) no_command) (own_stall b)
  own_respond d (Upload n) = rw (upload_stalls b n no-upload) (own_stall b)
  own_respond d GetStatus = status
  own_respond d GetState = inr (t, p)
  own_respond d ClrStatus = rw (clear_stalls b clr_states b.session.busy no-clr) (own_stall b)
  own_respond d Abort = through own (among b.session.state abort_states) (inl refl) (own_stall b)
  own_respond d Other = own_stall b

last_of : (t : Bool) → (t || false) ≡ true → t ≡ true
last_of true q = refl
last_of false q = q

own_waiting : (b : Board) (d : List ℕ) (q : Request) (t : Bool) → eqb b.session.state 3 ≡ t → among b.session.state busy_states ≡ true
    → b.session.pending ≡ Nothing → own (respond b q d)
own_waiting b d q true three w p =
    let s = eqb-true _ 3 three in
    own_respond b w p (rw s) (rw s) (rw s) (rw s) (own_status_3 b s p (ltb 0 b.session.busy) refl) d q
own_waiting b d q false not-3 w p =
    let s : b.session.state ≡ 4 = eqb-true _ 4 (last_of (eqb b.session.state 4) (rw not-3 at w)) in
    own_respond b w p (rw s) (rw s) (rw s) (rw s) (own_status_4 b s) d q

-- with none: none is set but by an accepted command
own_none : (b : Board) (setup d : List ℕ) (n : ℕ) → Shape b (refusal b setup d n) d (ask b setup d n) → b.session.busy ≡ 0 → own (ask b setup d n)
unfolding own step
own_none b setup d n (refused q) z = inl (ap (λ (r : Result). r.session.busy) q ∙ z)
own_none b setup d n (did k x q) z = subst own (sym q) (own_accept b k d)
own_none b setup d n (still y bs s x q) z =
    let r : Result = ask b setup d n in
    inl (busy_counted b (Ask setup d n) ∙ rw (ap (λ (r : Result). r.accepted) q) (none_kept b.session (request_of setup) r.outcome (pages r) z))

pub own_stays : OwnStays
unfolding step ask own
own_stays b (Ask setup d n) (inl z) = own_none b setup d n (shape b setup d n) z
own_stays b (Ask setup d n) (inr (t, p)) =
    through own (eqb (refusal b setup d n) 0) (own_waiting b d (request_of setup) (eqb b.session.state 3) refl t p) (inr (t, p))
own_stays b PowerUp o = inl refl
