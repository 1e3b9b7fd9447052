-- What the proofs of DNLOAD share: each way through `obey`, `end_download` and `dnload`.
-- Assumes nothing.
use Rattle.std.specs.Prelude.{if◌then◌else◌}
use mathlib.Core.Path.{◌≡◌, refl}
use mathlib.Core.Bool.{Bool, true, false, ◌&&◌, and-false}
use mathlib.Core.List.{List, []}
use Prim.Native.Nat.{ℕ, ◌≤◌, ◌<◌}
use lib.Dec.{eqb}
use borrow.Author.Tests.{eq-eqb, ne_eqb, lt-ltb, le-ltb}
use Rattle.words.specs.Words.{among}
use Rattle.memory.specs.declared.address.FlashAddress.{FlashAddress}
use Rattle.config.specs.declared.config.Config.{Config}
use Rattle.command.specs.Form.{form}
use Rattle.rules.specs.Session.{Session, session, Nothing, Start, StartKind}
use Rattle.rules.specs.Result.{board, reply, Answer, answer, Outcome, Done, Stall, Started}
use Rattle.rules.specs.Commands.{stall, obey_form}
use Rattle.rules.specs.Requests.{most_data, start_pending, start_of, end_plain, start_states, end_download, command_states, dnload}
use Rattle.rules.specs.Answered.{bare, Answered}

module _ (s : Session) (c : Config) (f e : List ℕ) where
  -- a stall leaves the memories
  pub stalled : {a : Answer} → a ≡ answer (stall (bare s c)) → Answered (board s c f e) (stall (board s c f e)) a f e
  unfolding stall
  stalled q = record { answered = q; flash = refl; eeprom = refl }

  -- so does any answer of three that are plain replies
  either : {a : Answer} (p q : Bool) (o o' : Outcome) (t u v : Session)
      → a ≡ answer (if p then reply c o [] t else if q then reply c Done [] u else reply c o' [] v)
      → Answered (board s c f e) (if p then reply c o [] t else if q then reply c Done [] u else reply c o' [] v) a f e
  either true q o o' t u v h = record { answered = h; flash = refl; eeprom = refl }
  either false true o o' t u v h = record { answered = h; flash = refl; eeprom = refl }
  either false false o o' t u v h = record { answered = h; flash = refl; eeprom = refl }

  -- DNLOAD by its wLength and the state
  module _ (n : ℕ) (d : List ℕ) where
    pub too_long : {a : Answer} → most_data < n → a ≡ answer (stall (bare s c)) → Answered (board s c f e) (dnload (board s c f e) n d) a f e
    unfolding dnload
    too_long h q = rw (lt-ltb most_data n h) (stalled q)

    pub ending : {a : Answer} → n ≤ most_data → n ≡ 0 → a ≡ answer (end_download (bare s c)) → Answered (board s c f e) (dnload (board s c f e) n d) a f e
    unfolding dnload end_download end_plain stall
    ending h z q =
        rw (le-ltb most_data n h, eq-eqb n 0 z)
        (either (among s.state start_states && start_pending s.pending) (eqb s.state 5) (start_of s.pending) Stall
        (session 0 s.status Nothing s.busy) (session 6 s.status Nothing s.busy) (stall (bare s c)).session q)

    pub commanding : {a : Answer} {f' e' : List ℕ} → n ≤ most_data → (n ≡ 0 → ⊥) → among s.state command_states ≡ true
        → Answered (board s c f e) (obey_form (board s c f e) (form d) d) a f' e' → Answered (board s c f e) (dnload (board s c f e) n d) a f' e'
    unfolding dnload
    commanding h z t r = rw (le-ltb most_data n h, ne_eqb n 0 z, t) r

    pub elsewhere : {a : Answer} → n ≤ most_data → (n ≡ 0 → ⊥) → among s.state command_states ≡ false
        → a ≡ answer (stall (bare s c)) → Answered (board s c f e) (dnload (board s c f e) n d) a f e
    unfolding dnload
    elsewhere h z t q = rw (le-ltb most_data n h, ne_eqb n 0 z, t) (stalled q)

-- the end of a download, by the state and what is pending
module _ (s : Session) (c : Config) (a : Answer) where
  pub ends : eqb s.state 5 ≡ true → a ≡ answer (reply c Done [] (session 6 s.status Nothing s.busy)) → a ≡ answer (end_plain (bare s c))
  unfolding end_plain
  ends t q = rw t q

  pub ends_not : eqb s.state 5 ≡ false → a ≡ answer (stall (bare s c)) → a ≡ answer (end_plain (bare s c))
  unfolding end_plain
  ends_not t q = rw t q

  pub starts : (k : StartKind) (x : FlashAddress) → s.pending ≡ Start k x → among s.state start_states ≡ true
      → a ≡ answer (reply c (Started k x) [] (session 0 s.status Nothing s.busy)) → a ≡ answer (end_download (bare s c))
  unfolding end_download
  starts k x p t q = rw (p, t) q

  pub starts_not : among s.state start_states ≡ false → a ≡ answer (end_plain (bare s c)) → a ≡ answer (end_download (bare s c))
  unfolding end_download
  starts_not t q = rw t q

  pub no_start : start_pending s.pending ≡ false → a ≡ answer (end_plain (bare s c)) → a ≡ answer (end_download (bare s c))
  unfolding end_download
  no_start p q = rw (p, and-false (among s.state start_states)) q
