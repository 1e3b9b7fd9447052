-- The order of the refusals holds: each test of `refusal`, told back in numbers.
-- Assumes nothing.
use mathlib.Core.Path.{◌≡◌, refl}
use mathlib.Core.Logic.{inl, inr}
use mathlib.Core.Bool.{Bool, true, false, not, ◌||◌, or-true, false≢true}
use mathlib.Core.List.{List, [], ◌∷◌}
use Prim.Native.Nat.{ℕ, ◌+◌, ◌*◌}
use native.Mathlib.Omega.{arith}
use lib.Dec.{eqb, ltb}
use lib.ListN.{length}
use borrow.Author.Tests.{eq-eqb, ne_eqb, le-ltb, lt-ltb, eqb-true, leb-true, leb-false, ltb-false, not-false}
use Rattle.words.specs.Words.{among, byte_at}
use Rattle.words.proofs.WordsLaws.{or_false}
use Rattle.command.specs.Ranges.{Unless}
use Rattle.command.proofs.RangesHold.{range_told, inside_told}
use Rattle.rules.specs.Session.{Session, Pending, Nothing, MemoryRead, BlankReport, OneByte, Start}
use Rattle.rules.specs.Refusals.{to_host, bad_data, states, known_state, most_busy, bad_session, bad_pending, refusal}
use Rattle.rules.specs.RefusalOrder.{In, DataRight, PendingRight, SessionRight, RefusalsInOrder}

-- a test that does not pass says "bad"
pub bad_told : (bad : Bool) {right : Type 0} → Unless bad right → (right → ⊥) → bad ≡ true
bad_told true u h = refl
bad_told false u h = absurd (h (u.told refl))

-- ---- the tests: 4, then the parts of 6

data_by : (setup d : List ℕ) (t : Bool) → to_host setup ≡ t → Unless (bad_data setup d) (DataRight setup d)
data_by setup d true q = record {
  told = λ h. record {
    from_host = λ low. absurd (let z = leb-true 0x80 (byte_at setup 0) q in omega arith);
    to_host_lem = λ high. eqb-true _ _ (not-false _ (rw q at h));
  };
  passes = λ r. rw (q, eq-eqb (length d) 0 (r.to_host_lem (leb-true 0x80 (byte_at setup 0) q)));
}
data_by setup d false q = record {
  told = λ h. record {
    from_host = λ low. eqb-true _ _ (not-false _ (rw q at h));
    to_host_lem = λ high. absurd (let z = leb-false 0x80 (byte_at setup 0) q in omega arith);
  };
  passes = λ r. rw (q, eq-eqb (length d) (byte_at setup 6 + 256 * byte_at setup 7) (r.from_host (leb-false 0x80 (byte_at setup 0) q)));
}

data_told : (setup d : List ℕ) → Unless (bad_data setup d) (DataRight setup d)
data_told setup d = data_by setup d (to_host setup) refl

pub in_among : (n : ℕ) (ms : List ℕ) → In n ms → among n ms ≡ true
in_among n [] i = elim i [ ]
in_among n (m ∷ ms) (inl q) = rw (eq-eqb n m q)
in_among n (m ∷ ms) (inr i) = rw (in_among n ms i) (or-true (eqb n m))

among_in : (n : ℕ) (ms : List ℕ) → among n ms ≡ true → In n ms
among_in n [] q = absurd (false≢true q)
among_in n (m ∷ ms) q = by (eqb n m) refl (λ e. among_in n ms (rw e at q))
  where
    by : (t : Bool) → eqb n m ≡ t → (eqb n m ≡ false → In n ms) → In n (m ∷ ms)
    by true e rest = inl (eqb-true n m e)
    by false e rest = inr (rest e)

pub not_among : (n : ℕ) (ms : List ℕ) → (In n ms → ⊥) → among n ms ≡ false
not_among n ms h = by (among n ms) refl
  where
    by : (t : Bool) → among n ms ≡ t → t ≡ false
    by true q = absurd (h (among_in n ms q))
    by false q = refl

pending_told : (p : Pending) → Unless (bad_pending p) (PendingRight p)
pending_told Nothing = record { told = λ q. tt; passes = λ r. refl }
pending_told (MemoryRead r) = range_told r
pending_told (BlankReport a) = inside_told a
pending_told (OneByte v) = record { told = λ q. tt; passes = λ r. refl }
pending_told (Start k a) = inside_told a

session_told : (s : Session) → Unless (bad_session s) (SessionRight s)
session_told s = record {
  told = λ q.
      let head : Bool = not (known_state s.state) || ltb 0x0F s.status in
      let right = or_false (head || ltb most_busy s.busy) (bad_pending s.pending) q in
      let counted = or_false head (ltb most_busy s.busy) right.0 in
      let known = or_false (not (known_state s.state)) (ltb 0x0F s.status) counted.0 in
      record {
        state = among_in s.state states (not-false (known_state s.state) known.0);
        status = ltb-false 0x0F s.status known.1;
        busy = ltb-false most_busy s.busy counted.1;
        pending = (pending_told s.pending).told right.1;
      };
  passes = λ r.
      rw (
        in_among s.state states r.state,
        le-ltb 0x0F s.status r.status,
        le-ltb 256 s.busy r.busy,
        (pending_told s.pending).passes r.pending,
      );
}

session_right : (s : Session) → SessionRight s → bad_session s ≡ false
session_right s = (session_told s).passes

-- ---- the order

pub refusals_in_order : RefusalsInOrder
unfolding refusal
refusals_in_order b setup d n = record {
  one = λ h. rw (ne_eqb (length setup) 8 h);
  two = λ s h. rw (s, ne_eqb (length b.flash) 32768 h);
  three = λ s f h. rw (s, f, ne_eqb (length b.eeprom) 1024 h);
  four = λ z h. rw (z.setup_size_lem, z.flash_size_lem, z.eeprom_size_lem, bad_told (bad_data setup d) (data_told setup d) h);
  five = λ z r h. rw (z.setup_size_lem, z.flash_size_lem, z.eeprom_size_lem, (data_told setup d).passes r, lt-ltb n 1024 h);
  six = λ z r l h.
      let bad = bad_told (bad_session b.session) (session_told b.session) h in
      rw (z.setup_size_lem, z.flash_size_lem, z.eeprom_size_lem, (data_told setup d).passes r, le-ltb n 1024 l, bad);
  seven = λ z r l s q.
      rw (z.setup_size_lem, z.flash_size_lem, z.eeprom_size_lem, (data_told setup d).passes r, le-ltb n 1024 l, session_right b.session s, q);
  none = λ z r l s h.
      let runs = ne_eqb b.session.state 0 h in
      rw (z.setup_size_lem, z.flash_size_lem, z.eeprom_size_lem, (data_told setup d).passes r, le-ltb n 1024 l, session_right b.session s, runs);
}
