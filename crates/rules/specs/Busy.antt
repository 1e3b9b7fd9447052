-- P5 of 02, "Busy is busy", said of every board and every request: what becomes of the busy page count, which proofs/BusyCountHolds.antt
-- proves; then what GETSTATUS tells, what works in state 4, and which counts are admitted, proved in proofs/BusyHolds.antt.
use Rattle.std.specs.Prelude.{if◌then◌else◌, ◌⊎◌, ◌≡◌, Bool, true, false, List, [], ◌∷◌, ℕ, ◌+◌, ◌*◌, ◌≤◌, ◌<◌, eqb, Option, None, Some}
use Rattle.words.specs.Words.{among}
use Rattle.memory.specs.declared.address.FlashAddress.{FlashAddress}
use Rattle.command.specs.declared.command.Command.{Command}
use Rattle.rules.specs.Session.{Session, StartKind, Nothing, Start}
use Rattle.rules.specs.Result.{Board, Result, pages, Outcome, Done, Stall, Started, Refused}
use Rattle.rules.specs.Requests.{Request, Dnload, Upload, GetStatus, GetState, ClrStatus, Abort, Other, request_of}
use Rattle.rules.specs.Refusals.{bad_pending, bad_session, refusal}
use Rattle.rules.specs.Step.{Event, Ask, PowerUp, ask, step}

-- ---- the count

-- "The count is cleared by that second GETSTATUS and by every stall, ABORT and power-up.": whether a request in this state clears it, where
-- it does not stall; that second GETSTATUS is the one in state 4
abbrev pub clears : ℕ → Request → Bool
clears state (Dnload n) = false
clears state (Upload n) = false
clears state GetStatus = eqb state 4
clears state GetState = false
clears state ClrStatus = false
clears state Abort = true
clears state Other = false

-- the count after a request to a session, by the outcome, the command that was accepted and the page count: "An accepted command, a blank
-- check that gives 05h too, sets it to its page count."; what is not listed keeps it
abbrev pub count_after : Session → Request → Outcome → Option Command → ℕ → ℕ
count_after s q Done (Some k) n = n
count_after s q Done None n = if clears s.state q then 0 else s.busy
count_after s q Stall k n = 0
count_after s q (Started j a) k n = s.busy
count_after s q (Refused m) k n = s.busy

abbrev pub count_of : Board → Event → Result → ℕ
count_of b (Ask setup d n) r = count_after b.session (request_of setup) r.outcome r.accepted (pages r)
count_of b PowerUp r = 0

abbrev pub BusyCounted : Type 0
BusyCounted = (b : Board) (v : Event) → (step b v).session.busy ≡ count_of b v (step b v)

-- before the first GETSTATUS, and before the next
abbrev pub busy_states : List ℕ
busy_states = 3 ∷ 4 ∷ []

-- a session as the loader leaves it, from power-up on: a count above 0 stands in states 3 and 4 alone, and then nothing is pending
abbrev pub Own : Session → Type 0
Own s = (s.busy ≡ 0) ⊎ ((among s.state busy_states ≡ true) × (s.pending ≡ Nothing))

abbrev pub OwnStays : Type 0
OwnStays = (b : Board) (v : Event) → Own b.session → Own (step b v).session

-- ---- GETSTATUS

-- r tells of the board b this time, in milliseconds, and this state: "status", the three timeout bytes, "low byte first", "the state
-- entered, zero"; status and what is pending stay
pub record Told (b : Board) (r : Result) (time state : ℕ) : Type 0 where
  pub low : ℕ
  pub middle : ℕ
  pub high : ℕ
  pub sent : r.sent ≡ b.session.status ∷ low ∷ middle ∷ high ∷ state ∷ 0 ∷ []
  pub bytes : (low < 256) × (middle < 256) × (high < 256)
  pub together : low + 256 * middle + 65536 * high ≡ time
  pub moved : r.session.state ≡ state
  pub status_stays : r.session.status ≡ b.session.status
  pub pending_stays : r.session.pending ≡ b.session.pending

-- "With a count above 0, the first GETSTATUS in state 3 reports state 4 with ten milliseconds a page in its three timeout bytes, low byte
-- first, and moves there; the next one reports 5 with timeout zero."; of 01, "State 3 becomes 5, 6 becomes 2, others stay"
pub record StatusTold (b : Board) (r : Result) : Type 0 where
  pub first : b.session.state ≡ 3 → 0 < b.session.busy → Told b r (10 * b.session.busy) 4
  pub no_pages : b.session.state ≡ 3 → b.session.busy ≡ 0 → Told b r 0 5
  pub second : b.session.state ≡ 4 → Told b r 0 5
  pub ended : b.session.state ≡ 6 → Told b r 0 2
  pub elsewhere : (b.session.state ≡ 3 → ⊥) → (b.session.state ≡ 4 → ⊥) → (b.session.state ≡ 6 → ⊥) → Told b r 0 b.session.state

abbrev pub BusyTold : Type 0
BusyTold = (b : Board) (setup d : List ℕ) (n : ℕ) → request_of setup ≡ GetStatus → refusal b setup d n ≡ 0 → StatusTold b (ask b setup d n)

-- ---- state 4

-- "In state 4 GETSTATE, GETSTATUS and ABORT work and the rest stalls."
abbrev pub works : Request → Bool
works (Dnload n) = false
works (Upload n) = false
works GetStatus = true
works GetState = true
works ClrStatus = false
works Abort = true
works Other = false

-- what each sends, of a board with this status, and the state that it leaves: as 01 has GETSTATE, ABORT and the stall, and P5 GETSTATUS
abbrev pub sent_from4 : ℕ → Request → List ℕ
sent_from4 status (Dnload n) = []
sent_from4 status (Upload n) = []
sent_from4 status GetStatus = status ∷ 0 ∷ 0 ∷ 0 ∷ 5 ∷ 0 ∷ []
sent_from4 status GetState = 4 ∷ []
sent_from4 status ClrStatus = []
sent_from4 status Abort = []
sent_from4 status Other = []

abbrev pub left_from4 : Request → ℕ
left_from4 (Dnload n) = 10
left_from4 (Upload n) = 10
left_from4 GetStatus = 5
left_from4 GetState = 4
left_from4 ClrStatus = 10
left_from4 Abort = 2
left_from4 Other = 10

pub record AnsweredIn4 (status : ℕ) (q : Request) (r : Result) : Type 0 where
  pub outcome : r.outcome ≡ (if works q then Done else Stall)
  pub sent : r.sent ≡ sent_from4 status q
  pub state : r.session.state ≡ left_from4 q

abbrev pub InState4 : Type 0
InState4 = (b : Board) (setup d : List ℕ) (n : ℕ) → b.session.state ≡ 4 → refusal b setup d n ≡ 0
    → AnsweredIn4 b.session.status (request_of setup) (ask b setup d n)

-- in state 3 an empty DNLOAD starts what is pending, whatever the count: 01's sentence, which P5 leaves
abbrev pub StartsBusy : Type 0
StartsBusy = (b : Board) (setup d : List ℕ) (n : ℕ) (k : StartKind) (a : FlashAddress) → b.session.state ≡ 3 → b.session.pending ≡ Start k a
    → request_of setup ≡ Dnload 0 → refusal b setup d n ≡ 0 → (ask b setup d n).outcome ≡ Started k a

-- ---- refusals

-- "6 now admits state 4 and refuses a busy count above 256": refuses it in every state, before 7; admits state 4 with any other count
pub record BusyAdmitted : Type 0 where
  pub refuses : (b : Board) (setup d : List ℕ) (n : ℕ) → 256 < b.session.busy → (0 < refusal b setup d n) × (refusal b setup d n ≤ 6)
  pub admits : (s : Session) → s.state ≡ 4 → s.status ≤ 0x0F → bad_pending s.pending ≡ false → s.busy ≤ 256 → bad_session s ≡ false
