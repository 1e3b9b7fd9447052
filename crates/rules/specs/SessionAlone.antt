-- What is answered by the session alone, of every board: also of one that a request would be refused on, and with any busy count. Proved in
-- proofs/SessionAloneHolds.antt.
use Rattle.std.specs.Prelude.{◌≡◌, List, [], ◌∷◌, ℕ, ◌*◌, ◌/◌, ◌%◌, ◌<◌}
use Rattle.memory.specs.declared.address.FlashAddress.{FlashAddress}
use Rattle.rules.specs.Session.{Session, session, StartKind, Nothing, Start}
use Rattle.rules.specs.Result.{Board, reply, Done, Started}
use Rattle.rules.specs.Commands.{stall}
use Rattle.rules.specs.Requests.{get_status, get_state, clr_status, abort, dnload, upload}
use Rattle.rules.specs.RefusalOrder.{In}
use Rattle.rules.specs.States.{NoStart}

-- GETSTATUS sends these six bytes and leaves this state and busy count: "status, three zero bytes, the state entered, zero", P5's three bytes being
-- a time, low byte first; "so do status and what is pending"
abbrev pub Tells : Board → ℕ → ℕ → ℕ → Type 0
Tells b time state busy = let s : Session = b.session in
    get_status b ≡ reply b.config Done (s.status ∷ time % 256 ∷ time / 256 % 256 ∷ time / 65536 % 256 ∷ state ∷ 0 ∷ [])
    (session state s.status s.pending busy)

pub record Alone (b : Board) : Type 0 where
  -- P5: "the first GETSTATUS in state 3 reports state 4 with ten milliseconds a page", "the next one reports 5 with timeout zero"
  pub busy_in_3 : b.session.state ≡ 3 → 0 < b.session.busy → Tells b (10 * b.session.busy) 4 b.session.busy
  pub free_in_3 : b.session.state ≡ 3 → b.session.busy ≡ 0 → Tells b 0 5 0
  pub in_4 : b.session.state ≡ 4 → Tells b 0 5 0
  pub in_6 : b.session.state ≡ 6 → Tells b 0 2 b.session.busy
  pub in_others : (In b.session.state (3 ∷ 4 ∷ 6 ∷ []) → ⊥) → Tells b 0 b.session.state b.session.busy
  -- "GETSTATE: one byte, the state. Nothing moves."
  pub state_told : get_state b ≡ reply b.config Done (b.session.state ∷ []) b.session
  -- "CLRSTATUS in 10, ABORT in 2, 3, 5, 6, 9: state 2, status 00h, nothing pending. Elsewhere they stall.", and P5
  pub cleared : b.session.state ≡ 10 → clr_status b ≡ reply b.config Done [] (session 2 0x00 Nothing b.session.busy)
  pub not_cleared : (b.session.state ≡ 10 → ⊥) → clr_status b ≡ stall b
  pub aborted : In b.session.state (2 ∷ 3 ∷ 4 ∷ 5 ∷ 6 ∷ 9 ∷ []) → abort b ≡ reply b.config Done [] (session 2 0x00 Nothing 0)
  pub not_aborted : (In b.session.state (2 ∷ 3 ∷ 4 ∷ 5 ∷ 6 ∷ 9 ∷ []) → ⊥) → abort b ≡ stall b
  -- "DNLOAD, wLength over 1,103: stall. .. wLength 1 to 1,103: a command in 2 or 5, else stall."
  pub too_long : (n : ℕ) (d : List ℕ) → 1103 < n → dnload b n d ≡ stall b
  pub no_command : (n : ℕ) (d : List ℕ) → 0 < n → (In b.session.state (2 ∷ 5 ∷ []) → ⊥) → dnload b n d ≡ stall b
  -- "wLength 0: in 3 or 5 with a start pending, the answer is start with its kind and address, state 0, nothing pending; else in 5 state 6, nothing
  -- pending (both keep the status); else stall."
  pub started : (k : StartKind) (a : FlashAddress) (d : List ℕ) → In b.session.state (3 ∷ 5 ∷ []) → b.session.pending ≡ Start k a
      → dnload b 0 d ≡ reply b.config (Started k a) [] (session 0 b.session.status Nothing b.session.busy)
  pub ended : (d : List ℕ) → b.session.state ≡ 5 → NoStart b
      → dnload b 0 d ≡ reply b.config Done [] (session 6 b.session.status Nothing b.session.busy)
  pub nothing_in_3 : (d : List ℕ) → b.session.state ≡ 3 → NoStart b → dnload b 0 d ≡ stall b
  pub not_ended : (d : List ℕ) → (In b.session.state (3 ∷ 5 ∷ []) → ⊥) → dnload b 0 d ≡ stall b
  -- "UPLOAD in 5 or 9 ..", and in no other state
  pub not_sending : (n : ℕ) → (In b.session.state (5 ∷ 9 ∷ []) → ⊥) → upload b n ≡ stall b

abbrev pub SessionAlone : Type 0
SessionAlone = (b : Board) → Alone b
