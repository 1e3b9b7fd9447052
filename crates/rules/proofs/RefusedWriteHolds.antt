-- A refused write is remembered: it sets status 03h and state 10, which every request but CLRSTATUS keeps.
-- Assumes nothing.
use mathlib.Core.Path.{◌≡◌, refl, sym, ap, ◌∙◌}
use mathlib.Core.Logic.{◌⊎◌, inl, inr}
use mathlib.Core.Bool.{Bool, true, false}
use mathlib.Core.List.{List, [], ◌∷◌}
use Prim.Native.Nat.{ℕ, ◌+◌, ◌*◌, ◌/◌, ◌%◌, ◌≤◌, ◌<◌}
use native.Mathlib.Omega.{arith}
use lib.Dec.{eqb}
use lib.ListN.{length}
use borrow.Author.Tests.{le-ltb, ne_eqb}
use Rattle.memory.specs.Memory.{flash_size, eeprom_size}
use Rattle.config.specs.Level.{level}
use Rattle.config.specs.declared.config.Config.{Config}
use Rattle.config.specs.declared.level.Level.TheVariants.{L1, L2}
use Rattle.command.specs.Rows as R
use Rattle.command.specs.Rows.{Row}
use Rattle.command.proofs.RowsHold.{rows_read}
use Rattle.command.specs.declared.command.Command.{Command}
use Rattle.command.specs.declared.command.Command.TheVariants.{WriteByte}
use Rattle.rules.specs.Session.{Session, session, Pending, Nothing}
use Rattle.rules.specs.Levels.{level_status}
use Rattle.rules.specs.Result.{Board, board, Result, next}
use Rattle.rules.specs.Requests.{Dnload}
use Rattle.rules.specs.Refusals.{refusal, most_busy}
use Rattle.rules.specs.Step.{Event, PowerUp, Ask, step, after}
use Rattle.rules.specs.BenchCases.{Unnamed, download, ask_status}
use Rattle.rules.specs.Accepted.{status_set}
use Rattle.rules.specs.RefusedWrite.{Forbidden, program_flash_lem, program_eeprom_lem, erase_low, erase_middle, erase_high, write_hsb, ssb_at_0, ssb_at_1}
use Rattle.rules.specs.Effects.{Commands}
use Rattle.rules.specs.RefusalOrder.{In}
use Rattle.rules.specs.Setups.{dnload}
use Rattle.rules.specs.RefusedWrite.{ssb_at_2, TakesCommands, Clears, Uncleared, Remembered, RefusedWriteRemembered}
use Rattle.rules.proofs.RefusalOrderHolds.{in_among, refusals_in_order}
use Rattle.rules.proofs.SetupsHold.{listed_asked}
use Rattle.rules.proofs.EffectsHold.{kept}
use Rattle.rules.proofs.AcceptedHolds.{command_order}
use Rattle.rules.proofs.Ready.{status_of}

-- ---- the refused write

-- the command that data is, which the level refuses
record Denied (c : Config) (d : List ℕ) : Type 0 where
  command : Command
  row : Row d command
  denied : level_status command (level c) ≡ 0x03

-- what is refused at levels 1 and 2
locked : (c : Config) (d : List ℕ) (k : Command) → Row d k → level_status k L1 ≡ 0x03 → level_status k L2 ≡ 0x03 → (c.ssb ≡ 0xFF → ⊥) → Denied c d
locked c d k row one two h = record { command = k; row = row; denied = go (eqb c.ssb 0xFE) refl }
  where
    go : (t : Bool) → eqb c.ssb 0xFE ≡ t → level_status k (level c) ≡ 0x03
    go true q = rw (ne_eqb c.ssb 0xFF h, q) one
    go false q = rw (ne_eqb c.ssb 0xFF h, q) two

-- a write of SSB
ssb_row : (c : Config) (v : ℕ) → level_status (WriteByte 0x05 v) (level c) ≡ 0x03 → Denied c (0x04 ∷ 0x01 ∷ 0x05 ∷ v ∷ [])
ssb_row c v q = record { command = WriteByte 0x05 v; row = R.write_byte 0x05 v (omega arith); denied = q }

denied_by : (c : Config) (d : List ℕ) → Forbidden c.ssb d → Denied c d
denied_by c d (program_flash_lem h x y z w rest) = locked c d _ (R.program_flash_lem x y z w rest) refl refl h
denied_by c d (program_eeprom_lem h x y z w rest) = locked c d _ (R.program_eeprom_lem x y z w rest) refl refl h
denied_by c d (erase_low h) = locked c d _ R.erase_low refl refl h
denied_by c d (erase_middle h) = locked c d _ R.erase_middle refl refl h
denied_by c d (erase_high h) = locked c d _ R.erase_high refl refl h
denied_by c d (write_hsb h v) = locked c d _ (R.write_hsb v) refl refl h
denied_by c d (ssb_at_0 q v x y) = ssb_row c v (rw (q, ne_eqb v 0xFE x, ne_eqb v 0xFC y))
denied_by c d (ssb_at_1 q v y) = ssb_row c v (rw (q, ne_eqb v 0xFC y))
denied_by c d (ssb_at_2 h k v) = ssb_row c v (rw (ne_eqb c.ssb 0xFF h, ne_eqb c.ssb 0xFE k))

has_bytes : (ssb : ℕ) (d : List ℕ) → Forbidden ssb d → 0 < length d
has_bytes ssb [] f = elim f [ ]
has_bytes ssb (x ∷ xs) f = omega arith

module _ (b : Board) (t : TakesCommands b) (u : Unnamed) (d : List ℕ) (f : Forbidden b.config.ssb d) (short : length d ≤ 1103) where
  abbrev setup : List ℕ
  setup = 0x21 ∷ 1 ∷ u.low ∷ u.high ∷ 0 ∷ 0 ∷ length d % 256 ∷ length d / 256 ∷ []

  whole : length d % 256 + 256 * (length d / 256) ≡ length d
  whole = omega arith

  not_refused : refusal b setup d u.room ≡ 0
  not_refused =
      (refusals_in_order b setup d u.room).none
      (record { setup_size_lem = refl; flash_size_lem = t.flash_size_lem; eeprom_size_lem = t.eeprom_size_lem })
      (record { from_host = λ q. sym whole; to_host_lem = λ h. absurd (omega arith) })
      u.enough t.session_right (λ z. runs b.session.state z t.in_state)
    where
      runs : (state : ℕ) → state ≡ 0 → In state (2 ∷ 5 ∷ []) → ⊥
      runs state z (inl q) = omega arith
      runs state z (inr (inl q)) = omega arith
      runs state z (inr (inr i)) = elim i [ ]

  refused : step b (download u d) ≡ status_set b 0x03
  unfolding step
  refused =
      let k = denied_by b.config d f in
      let c : Commands b setup d u.room = record {
        bytes = length d;
        not_refused = not_refused;
        dnload = listed_asked setup _ (dnload u.low u.high _ _) ∙ ap Dnload whole;
        some_bytes = has_bytes b.config.ssb d f;
        not_too_many = short;
        in_state = in_among b.session.state (2 ∷ 5 ∷ []) t.in_state;
      } in
      (command_order b setup d u.room c).forbidden k.command 0x03 (rows_read d k.command k.row) k.denied (λ z. omega arith)

-- ---- what comes after it

-- a board that remembers: state 10, status 03h, nothing pending
record Remembers (b later : Board) : Type 0 where
  flash : later.flash ≡ b.flash
  eeprom : later.eeprom ≡ b.eeprom
  config : later.config ≡ b.config
  state : later.session.state ≡ 10
  status : later.session.status ≡ 0x03
  pending : later.session.pending ≡ Nothing
  few : later.session.busy ≤ most_busy

none_pending : {p q : Pending} → q ≡ Nothing → (p ≡ q) ⊎ (p ≡ Nothing) → p ≡ Nothing
none_pending none (inl same) = same ∙ none
none_pending none (inr cleared) = cleared

goes_on : (b later : Board) (setup d : List ℕ) (n : ℕ) → Remembers b later → (Clears later setup d n → ⊥)
    → Remembers b (next later (step later (Ask setup d n)))
unfolding step
goes_on b later setup d n m h =
    let k = kept later m.state setup d n (λ q z. h (record { asked = q; not_refused = z })) in
    record {
      flash = rw k.stored m.flash;
      eeprom = rw k.patched m.eeprom;
      config = k.config ∙ m.config;
      state = k.state;
      status = k.status ∙ m.status;
      pending = none_pending m.pending k.pending;
      few = let fewer = k.busy in let at_most = m.few in omega arith;
    }

remembers : (b later : Board) (vs : List Event) → Remembers b later → Uncleared later vs → Remembers b (after later vs)
remembers b later [] m h = m
remembers b later (PowerUp ∷ vs) m h = elim h [ ]
remembers b later (Ask setup d n ∷ vs) m h = remembers b (next later (step later (Ask setup d n))) vs (goes_on b later setup d n m h.0) h.1

-- such a board sends 03h and state 10
told : (b later : Board) → length b.flash ≡ flash_size → length b.eeprom ≡ eeprom_size → Remembers b later → Remembered b later
told b later hf he m =
    let k : ℕ = later.session.busy in
    let s : Session = session 10 0x03 Nothing k in
    let c : Config = later.config in
    let f : List ℕ = later.flash in
    let e : List ℕ = later.eeprom in
    let same : later.session ≡ s = rw (← m.state, ← m.status, ← m.pending) in
    let here : later ≡ board s c f e = ap (λ x. board x c f e) same in
    record {
      flash_stays = m.flash;
      eeprom_stays = m.eeprom;
      config_stays = m.config;
      status_told = λ u.
          ap (λ x. (step x (ask_status u)).sent) here
          ∙ ap (λ (x : Result). x.sent) (status_of s c f e (ap length m.flash ∙ hf) (ap length m.eeprom ∙ he) (rw (le-ltb most_busy k m.few)) refl u);
    }

pub refused_write_remembered : RefusedWriteRemembered
refused_write_remembered b t u d f short vs h =
    let r = refused b t u d f short in
    let first : Remembers b (next b (step b (download u d))) = record {
      flash = rw r;
      eeprom = rw r;
      config = rw r;
      state = rw r;
      status = rw r;
      pending = rw r;
      few = rw r t.session_right.busy;
    } in
    told b (after b (download u d ∷ vs)) t.flash_size_lem t.eeprom_size_lem (remembers b (next b (step b (download u d))) vs first h)
