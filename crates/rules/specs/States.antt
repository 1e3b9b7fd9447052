-- 01's "Requests" and P5 of 02, a sentence each: in which state each request works, and what it leaves, for every board and every request
-- that is not refused. GETSTATUS is told in Busy and UPLOAD in Sending. Proved in proofs/StatesHold.antt.
use Rattle.std.specs.Prelude.{◌≡◌, List, [], ◌∷◌, ℕ, ◌<◌}
use Rattle.memory.specs.declared.address.FlashAddress.{FlashAddress}
use Rattle.rules.specs.Session.{session, StartKind, Nothing, Start}
use Rattle.rules.specs.Result.{Board, Result, reply, Done, Stall, Started}
use Rattle.rules.specs.Requests.{Dnload, GetStatus, GetState, ClrStatus, Abort, Other, request_of}
use Rattle.rules.specs.Refusals.{refusal}
use Rattle.rules.specs.Step.{PowerUp, ask, step}
use Rattle.rules.specs.RefusalOrder.{In}

-- "Stall: state 10, status 0Fh, nothing pending. In state 10 the status there already stays. Nothing is sent; memory and configuration
-- stay."; P5: "The count is cleared by .. every stall"
pub record Stalls (b : Board) (r : Result) : Type 0 where
  pub from_10 : b.session.state ≡ 10 → r ≡ reply b.config Stall [] (session 10 b.session.status Nothing 0)
  pub elsewhere : (b.session.state ≡ 10 → ⊥) → r ≡ reply b.config Stall [] (session 10 0x0F Nothing 0)

-- no start is pending
abbrev pub NoStart : Board → Type 0
NoStart b = (k : StartKind) (a : FlashAddress) → b.session.pending ≡ Start k a → ⊥

-- r the answer to the setup
pub record ByState (b : Board) (setup : List ℕ) (r : Result) : Type 0 where
  -- P5: "The count is cleared by that second GETSTATUS", which is the one in state 4
  pub status_asked : request_of setup ≡ GetStatus → r.outcome ≡ Done
  pub count_cleared : request_of setup ≡ GetStatus → b.session.state ≡ 4 → r.session.busy ≡ 0
  pub count_kept : request_of setup ≡ GetStatus → (b.session.state ≡ 4 → ⊥) → r.session.busy ≡ b.session.busy
  -- "GETSTATE: one byte, the state. Nothing moves."
  pub state_asked : request_of setup ≡ GetState → r ≡ reply b.config Done (b.session.state ∷ []) b.session
  -- "CLRSTATUS in 10 ..: state 2, status 00h, nothing pending. Elsewhere they stall."; P5: the busy count stays
  pub cleared : request_of setup ≡ ClrStatus → b.session.state ≡ 10 → r ≡ reply b.config Done [] (session 2 0x00 Nothing b.session.busy)
  pub not_cleared : request_of setup ≡ ClrStatus → (b.session.state ≡ 10 → ⊥) → Stalls b r
  -- ".. ABORT in 2, 3, 5, 6, 9"; P5: "In state 4 .. ABORT work", and it clears the busy count
  pub aborted : request_of setup ≡ Abort → In b.session.state (2 ∷ 3 ∷ 4 ∷ 5 ∷ 6 ∷ 9 ∷ []) → r ≡ reply b.config Done [] (session 2 0x00 Nothing 0)
  pub not_aborted : request_of setup ≡ Abort → (In b.session.state (2 ∷ 3 ∷ 4 ∷ 5 ∷ 6 ∷ 9 ∷ []) → ⊥) → Stalls b r
  -- "DNLOAD, wLength over 1,103: stall."
  pub too_long : (m : ℕ) → request_of setup ≡ Dnload m → 1103 < m → Stalls b r
  -- "wLength 0: in 3 or 5 with a start pending, the answer is start with its kind and address, state 0, nothing pending .. (.. keep the
  -- status)"
  pub started : (k : StartKind) (a : FlashAddress) → request_of setup ≡ Dnload 0 → In b.session.state (3 ∷ 5 ∷ []) → b.session.pending ≡ Start k a
      → r ≡ reply b.config (Started k a) [] (session 0 b.session.status Nothing b.session.busy)
  -- "else in 5 state 6, nothing pending (both keep the status)"
  pub ended : request_of setup ≡ Dnload 0 → b.session.state ≡ 5 → NoStart b
      → r ≡ reply b.config Done [] (session 6 b.session.status Nothing b.session.busy)
  -- "else stall."
  pub nothing_in_3 : request_of setup ≡ Dnload 0 → b.session.state ≡ 3 → NoStart b → Stalls b r
  pub not_ended : request_of setup ≡ Dnload 0 → (In b.session.state (3 ∷ 5 ∷ []) → ⊥) → Stalls b r
  -- "wLength 1 to 1,103: a command in 2 or 5, else stall."
  pub no_command : (m : ℕ) → request_of setup ≡ Dnload m → 0 < m → (In b.session.state (2 ∷ 5 ∷ []) → ⊥) → Stalls b r
  -- "Anything else stalls, DETACH always."
  pub unlisted : request_of setup ≡ Other → Stalls b r

abbrev pub RequestsByState : Type 0
RequestsByState = (b : Board) (setup d : List ℕ) (n : ℕ) → refusal b setup d n ≡ 0 → ByState b setup (ask b setup d n)

-- "Power-up sets state 2, status 00h, nothing pending, and keeps the rest."; P5: "The count is cleared by .. power-up"
abbrev pub PoweredUp : Type 0
PoweredUp = (b : Board) → step b PowerUp ≡ reply b.config Done [] (session 2 0x00 Nothing 0)
