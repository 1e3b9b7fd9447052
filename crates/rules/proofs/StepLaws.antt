-- What the proofs of one request share: what holds of a request that is not refused, and what each request leaves alone.
-- Assumes nothing.
use Rattle.std.specs.Prelude.{if◌then◌else◌, Option, None, Some}
use mathlib.Core.Path.{◌≡◌, refl, sym, ap, ◌∙◌}
use mathlib.Core.Bool.{Bool, true, false, not, ◌||◌, ◌&&◌}
use mathlib.Core.List.{List, []}
use Prim.Native.Nat.{ℕ, ◌≤◌}
use native.Mathlib.Omega.{arith}
use lib.Dec.{eqb, ltb}
use lib.ListN.{length}
use borrow.Author.Tests.{eqb-true, ltb-false, eq-eqb, ne_eqb}
use Rattle.words.specs.Words.{among}
use Rattle.memory.specs.Memory.{flash_size, eeprom_size}
use Rattle.config.specs.Level.{level}
use Rattle.config.specs.Config.{delivered_config}
use Rattle.config.specs.declared.config.Config.{Config}
use Rattle.command.specs.Form.{form}
use Rattle.command.specs.Address.{bad_address}
use Rattle.command.specs.Transfer.{bad_length}
use Rattle.command.specs.declared.command.Command.{Command}
use Rattle.words.proofs.WordsLaws.{or_false}
use Rattle.rules.specs.Session.{Session}
use Rattle.rules.specs.Result.{Board, board, Result, reply, Answer, answer, Refused}
use Rattle.rules.specs.Commands.{stall, forbidden, obey, obey_form}
use Rattle.rules.specs.Requests.{Request, Dnload, Upload, GetStatus, GetState, ClrStatus, Abort, Other, request_of, start_pending, end_plain}
use Rattle.rules.specs.Requests.{start_states, end_download, most_data, command_states, dnload, upload_states, sendable, send, upload}
use Rattle.rules.specs.Requests.{get_status, get_state, clear_in}
use Rattle.rules.specs.Requests.{clr_states, clr_status, abort_states, abort, respond}
use Rattle.rules.specs.Refusals.{known_state, bad_pending, bad_session, bad_data, most_busy, reply_size, refusal}
use Rattle.rules.specs.Step.{ask, step, Events}
use Rattle.rules.specs.Answered.{bare, Answered, Replied, Stepped}

-- a request that is not refused
pub record Unrefused (b : Board) (n : ℕ) : Type 0 where
  pub flash_size_lem : length b.flash ≡ flash_size
  pub eeprom_size_lem : length b.eeprom ≡ eeprom_size
  pub room : reply_size ≤ n
  pub pending_right : bad_pending b.session.pending ≡ false
  pub few_busy : b.session.busy ≤ most_busy

passed : (t u v w x y : Bool) (z : ℕ)
    → (if not t then 1 else if not u then 2 else if not v then 3 else if w then 4 else if x then 5 else if y then 6 else z) ≡ 0
    → (u ≡ true) × (v ≡ true) × (x ≡ false) × (y ≡ false)
passed true true true false false false z q = (refl, refl, refl, refl)
passed false u v w x y z q = absurd (omega arith)
passed true false v w x y z q = absurd (omega arith)
passed true true false w x y z q = absurd (omega arith)
passed true true true true x y z q = absurd (omega arith)
passed true true true false true y z q = absurd (omega arith)
passed true true true false false true z q = absurd (omega arith)

pub unrefused : (b : Board) (setup d : List ℕ) (n : ℕ) → refusal b setup d n ≡ 0 → Unrefused b n
unfolding refusal
unrefused b setup d n q =
    let s : Session = b.session in
    let head : Bool = not (known_state s.state) || ltb 0x0F s.status in
    let h = passed (eqb (length setup) 8) (eqb (length b.flash) flash_size) (eqb (length b.eeprom) eeprom_size) (bad_data setup d)
    (ltb n reply_size) (bad_session s) _ q in
    let right = or_false (head || ltb most_busy s.busy) (bad_pending s.pending) h.3 in
    record {
      flash_size_lem = eqb-true _ flash_size h.0;
      eeprom_size_lem = eqb-true _ eeprom_size h.1;
      room = ltb-false n reply_size h.2;
      pending_right = right.1;
      few_busy = ltb-false most_busy s.busy (or_false head (ltb most_busy s.busy) right.0).1;
    }

-- a result that stores nothing; one that also sends nothing
record Still (r : Result) : Type 0 where
  stored : r.stored ≡ []
  patched : r.patched ≡ []

-- what holds of two results holds of the one that a test picks
pub through : (P : Result → Type 0) (t : Bool) {x y : Result} → P x → P y → P (if t then x else y)
through P true p q = p
through P false p q = q

-- ---- where a request stalls by the state alone

-- whatever two tests say
same_thrice : (t u : Bool) (x : Result) → (if t then x else if u then x else x) ≡ x
same_thrice true u x = refl
same_thrice false true x = refl
same_thrice false false x = refl

module _ (b : Board) where
  -- an empty DNLOAD, where no start is answered and the state is not 5
  pub empty_stalls : (among b.session.state start_states && start_pending b.session.pending) ≡ false → eqb b.session.state 5 ≡ false
      → end_download b ≡ stall b
  unfolding end_download end_plain
  empty_stalls t u = rw (t, u)

  pub dnload_stalls : (n : ℕ) (d : List ℕ) → end_download b ≡ stall b → among b.session.state command_states ≡ false → dnload b n d ≡ stall b
  unfolding dnload
  dnload_stalls n d e t = rw (e, t) (same_thrice (ltb most_data n) (eqb n 0) (stall b))

  pub upload_stalls : (n : ℕ) → among b.session.state upload_states ≡ false → upload b n ≡ stall b
  unfolding upload
  upload_stalls n t = rw t

  pub clear_stalls : (states : List ℕ) (busy : ℕ) → among b.session.state states ≡ false → clear_in states busy b ≡ stall b
  clear_stalls states busy t = rw t

module _ (b : Board) where
  abbrev silent : Result → Type 0
  silent r = r.sent ≡ []

  silent_stall : silent (stall b)
  unfolding stall
  silent_stall = refl

  still_stall : Still (stall b)
  unfolding stall
  still_stall = record { stored = refl; patched = refl }

  silent_obey : (k : Command) (d : List ℕ) → silent (obey b k d)
  unfolding obey
  silent_obey k d =
      through silent (forbidden b k) refl (through silent (bad_address k) refl (through silent (bad_length k d) silent_stall refl))

  silent_form : (o : Option Command) (d : List ℕ) → silent (obey_form b o d)
  silent_form None d = silent_stall
  silent_form (Some k) d = silent_obey k d

  silent_dnload : (n : ℕ) (d : List ℕ) → silent (dnload b n d)
  unfolding dnload end_download end_plain
  silent_dnload n d =
      through silent (ltb most_data n) silent_stall (through silent (eqb n 0)
      (through silent (among b.session.state start_states && start_pending b.session.pending) refl
      (through silent (eqb b.session.state 5) refl silent_stall))
      (through silent (among b.session.state command_states) (silent_form (form d) d) silent_stall))

  still_upload : (n : ℕ) → Still (upload b n)
  unfolding upload send
  still_upload n =
      through Still (among b.session.state upload_states && ltb 0 n && sendable b.session.pending (level b.config))
      (record { stored = refl; patched = refl }) still_stall

  silent_clear : (states : List ℕ) (busy : ℕ) → silent (clear_in states busy b)
  silent_clear states busy = through silent (among b.session.state states) refl silent_stall

  still_clear : (states : List ℕ) (busy : ℕ) → Still (clear_in states busy b)
  still_clear states busy = through Still (among b.session.state states) (record { stored = refl; patched = refl }) still_stall

-- each request, from what its function promises
module _ (s : Session) (c : Config) (f e d p : List ℕ) where
  abbrev b : Board
  b = board s c f e

  abbrev Answers : Request → Answer → List ℕ → List ℕ → List ℕ → Type 0
  Answers q a f' e' p' = Stepped b (respond b q d) a f' e' p' p

  nothing_sent : (r : Result) {a : Answer} → silent b r → Still r → a ≡ answer r → Stepped b r a f e p p
  nothing_sent r u v q = record { answered = q; flash = rw v.stored; eeprom = rw v.patched; reply = rw u }

  nothing_stored : (r : Result) {a : Answer} {p' : List ℕ} → Still r → Replied r a p' p → Stepped b r a f e p' p
  nothing_stored r v q = record { answered = q.answered; flash = rw v.stored; eeprom = rw v.patched; reply = q.reply }

  pub by_dnload : (n : ℕ) {a : Answer} {f' e' : List ℕ} → Answered b (dnload b n d) a f' e' → Answers (Dnload n) a f' e' p
  unfolding respond
  by_dnload n q = record { answered = q.answered; flash = q.flash; eeprom = q.eeprom; reply = rw (silent_dnload b n d) }

  pub by_upload : (n : ℕ) {a : Answer} {p' : List ℕ} → Replied (upload b n) a p' p → Answers (Upload n) a f e p'
  unfolding respond
  by_upload n q = nothing_stored (upload b n) (still_upload b n) q

  pub by_get_status : {a : Answer} {p' : List ℕ} → Replied (get_status (bare s c)) a p' p → Answers GetStatus a f e p'
  unfolding respond
  by_get_status q = record { answered = q.answered; flash = refl; eeprom = refl; reply = q.reply }

  pub by_get_state : {a : Answer} {p' : List ℕ} → Replied (get_state (bare s c)) a p' p → Answers GetState a f e p'
  unfolding respond
  by_get_state q = record { answered = q.answered; flash = refl; eeprom = refl; reply = q.reply }

  pub by_clr_status : {a : Answer} → a ≡ answer (clr_status (bare s c)) → Answers ClrStatus a f e p
  unfolding respond stall
  by_clr_status q = nothing_sent (clr_status b) (silent_clear b clr_states _) (still_clear b clr_states _) q

  pub by_abort : {a : Answer} → a ≡ answer (abort (bare s c)) → Answers Abort a f e p
  unfolding respond stall
  by_abort q = nothing_sent (abort b) (silent_clear b abort_states 0) (still_clear b abort_states 0) q

  pub by_stall : {a : Answer} → a ≡ answer (stall (bare s c)) → Answers Other a f e p
  unfolding respond stall
  by_stall q = nothing_sent (stall b) (silent_stall b) (still_stall b) q

-- a request is refused, or answered
module _ (s : Session) (c : Config) (setup d f e p : List ℕ) (number : ℕ) (told : number ≡ refusal (board s delivered_config f e) setup d (length p)) where
  abbrev asked : Result
  asked = ask (board s c f e) setup d (length p)

  number_here : number ≡ refusal (board s c f e) setup d (length p)
  unfolding refusal
  number_here = told

  pub not_refused : number ≡ 0 → Unrefused (board s c f e) (length p)
  not_refused z = unrefused (board s c f e) setup d (length p) (sym number_here ∙ z)

  pub is_refused_lem : {a : Answer} → (number ≡ 0 → ⊥) → a ≡ answer (reply c (Refused number) [] s) → Stepped (board s c f e) asked a f e p p
  unfolding ask
  is_refused_lem h q =
      let t : eqb (refusal (board s c f e) setup d (length p)) 0 ≡ false = ne_eqb _ 0 (λ z. h (number_here ∙ z)) in
      rw t (record { answered = q ∙ ap (λ n. answer (reply c (Refused n) [] s)) number_here; flash = refl; eeprom = refl; reply = refl })

  pub is_answered : (q : Request) {a : Answer} {f' e' p' : List ℕ} → number ≡ 0 → q ≡ request_of setup
      → Stepped (board s c f e) (respond (board s c f e) q d) a f' e' p' p → Stepped (board s c f e) asked a f' e' p' p
  unfolding ask
  is_answered q z t r = rw (eq-eqb (refusal (board s c f e) setup d (length p)) 0 (sym number_here ∙ z), ← t) r

pub events : Events
unfolding step
events = record { asked = λ b setup d n. refl; powered_up = λ b. refl }
