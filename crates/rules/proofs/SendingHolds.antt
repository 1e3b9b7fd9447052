-- UPLOAD sends the front of what is pending and leaves the rest of it.
-- Assumes nothing.
use mathlib.Core.Path.{◌≡◌, refl, sym, ◌∙◌, subst}
use mathlib.Core.Bool.{Bool, true, false, ◌&&◌, and-false}
use mathlib.Core.List.{List, [], ◌∷◌, ◌++◌, append-nil}
use Prim.Native.Nat.{ℕ, ◌+◌, ◌*◌, ◌/◌, ◌%◌, ◌≤◌, ◌<◌}
use native.Mathlib.Omega.{arith}
use lib.Dec.{ltb}
use lib.ListN.{length, take, drop}
use lib.Seq.{length-take-le, take_all, take-take, take-add, drop-drop}
use borrow.Author.Tests.{lt-ltb, le-ltb, ltb-true, ltb-false}
use Rattle.words.specs.Words.{count, part, among}
use Rattle.words.proofs.WordsLaws.{length_part, get_d_part}
use Rattle.memory.specs.Memory.{flash_size, eeprom_size}
use Rattle.memory.specs.declared.address.Range.TheVariants.{Flash, Eeprom}
use Rattle.config.specs.Level.{level}
use Rattle.config.specs.declared.level.Level.{Level}
use Rattle.config.specs.declared.level.Level.TheVariants.{L0, L1, L2}
use Rattle.command.proofs.AddressLaws.{Good, bad_ends_good}
use Rattle.rules.specs.Session.{Pending, Nothing, MemoryRead, BlankReport, OneByte, Start}
use Rattle.rules.specs.Result.{Board}
use Rattle.rules.specs.Requests.{Upload, request_of, pending_bytes, pending_count, pending_after, read_sent, sendable, send, respond, upload_states, upload}
use Rattle.rules.specs.Refusals.{bad_pending, refusal}
use Rattle.rules.specs.Step.{ask}
use Rattle.rules.specs.RefusalOrder.{In}
use Rattle.rules.specs.Sending.{CanBeSent, PendingBytes, Rest, Sends, ByPending, UploadsByPending}
use Rattle.rules.proofs.RefusalOrderHolds.{in_among, not_among}
use Rattle.rules.proofs.StatesHold.{answered, stalled}
use Rattle.rules.proofs.StepLaws.{Unrefused, unrefused, upload_stalls}

-- the first n bytes of a part, and the part without them
split : (a e n : ℕ) (m : List ℕ) → n < count a e → take n (part a e m) ++ part (a + n) e m ≡ part a e m
split a e n m h =
    let k : ℕ = count (a + n) e in
    let c : n + k ≡ count a e = omega arith in
    let front : take n (take (count a e) (drop a m)) ≡ take n (drop a m) = take-take n (count a e) (drop a m) (omega arith) in
    rw (front, ← drop-drop n a m, ← take-add n k (drop a m), c)

-- a part of a memory that has it
part_count : (size a e : ℕ) (m : List ℕ) → length m ≡ size → Good size a e → length (part a e m) ≡ count a e
part_count size a e m z g = length_part a e m ∙ (let f = g.forward in let i = g.inside in omega arith)

module _ (b : Board) (n : ℕ) (some_asked : 0 < n) where
  -- by whether more remains
  sends_more : (p : Pending) → n < length (pending_bytes b p) → length (pending_bytes b p) ≡ pending_count p
      → take n (pending_bytes b p) ++ pending_bytes b (pending_after n p) ≡ pending_bytes b p → Rest n p (pending_after n p) → Sends b n p (send b n p)
  unfolding send
  sends_more p l c w rest =
      let t : ltb n (pending_count p) ≡ true = lt-ltb n (pending_count p) (omega arith) in
      record {
        done = refl;
        status = rw t;
        count_stays = rw t;
        together = rw t w;
        more = λ h. (length-take-le n (pending_bytes b p) (omega arith), rw t, rw t rest);
        all = λ h. absurd (omega arith);
      }

  sends_all : (p : Pending) → length (pending_bytes b p) ≤ n → length (pending_bytes b p) ≡ pending_count p → Sends b n p (send b n p)
  unfolding send
  sends_all p l c =
      let t : ltb n (pending_count p) ≡ false = le-ltb n (pending_count p) (omega arith) in
      let those : take n (pending_bytes b p) ≡ pending_bytes b p = take_all n (pending_bytes b p) l in
      record {
        done = refl;
        status = rw t;
        count_stays = rw t;
        together = rw (t, those) (append-nil (pending_bytes b p));
        more = λ h. absurd (omega arith);
        all = λ h. (rw t, rw t);
      }

  sends_by : (p : Pending) → length (pending_bytes b p) ≡ pending_count p
      → (n < length (pending_bytes b p) → (take n (pending_bytes b p) ++ pending_bytes b (pending_after n p) ≡ pending_bytes b p)
      × Rest n p (pending_after n p))
      → (t : Bool) → ltb n (length (pending_bytes b p)) ≡ t → Sends b n p (send b n p)
  sends_by p c w true q = let l = ltb-true n (length (pending_bytes b p)) q in sends_more p l c (w l).0 (w l).1
  sends_by p c w false q = sends_all p (ltb-false n (length (pending_bytes b p)) q) c

-- what is pending on a board that does not refuse
module _ (b : Board) (size : ℕ) (u : Unrefused b size) where
  counted : (p : Pending) → bad_pending p ≡ false → length (pending_bytes b p) ≡ pending_count p
  counted Nothing q = refl
  counted (MemoryRead (Flash a e)) q = part_count flash_size a.0 e.0 b.flash u.flash_size_lem (bad_ends_good flash_size a.0 e.0 q)
  counted (MemoryRead (Eeprom a e)) q = part_count eeprom_size a.0 e.0 b.eeprom u.eeprom_size_lem (bad_ends_good eeprom_size a.0 e.0 q)
  counted (BlankReport a) q = refl
  counted (OneByte v) q = refl
  counted (Start k a) q = refl

  module _ (n : ℕ) (some_asked : 0 < n) where
    -- what is sent and what is left
    rest_left : (p : Pending) → bad_pending p ≡ false → n < length (pending_bytes b p)
        → (take n (pending_bytes b p) ++ pending_bytes b (pending_after n p) ≡ pending_bytes b p) × Rest n p (pending_after n p)
    rest_left Nothing q l = absurd (omega arith)
    rest_left (MemoryRead (Flash a e)) q l =
        let c = counted (MemoryRead (Flash a e)) q in (split a.0 e.0 n b.flash (omega arith), refl)
    rest_left (MemoryRead (Eeprom a e)) q l =
        let c = counted (MemoryRead (Eeprom a e)) q in (split a.0 e.0 n b.eeprom (omega arith), refl)
    rest_left (BlankReport a) q l = let one : n ≡ 1 = omega arith in (rw one, refl)
    rest_left (OneByte v) q l = absurd (omega arith)
    rest_left (Start k a) q l = absurd (omega arith)

-- ---- what can be sent

read_sent_lem : (l : Level) → (l ≡ L2 → ⊥) → read_sent l ≡ true
read_sent_lem L0 h = refl
read_sent_lem L1 h = refl
read_sent_lem L2 h = absurd (h refl)

sent : (p : Pending) (l : Level) → CanBeSent p l → sendable p l ≡ true
sent Nothing l h = elim h [ ]
sent (Start k a) l h = elim h [ ]
sent (MemoryRead r) l h = read_sent_lem l h
sent (BlankReport a) l h = refl
sent (OneByte v) l h = refl

read_kept : (l : Level) → ((l ≡ L2 → ⊥) → ⊥) → read_sent l ≡ false
read_kept L0 h = absurd (h (λ q. let n : ◌≡◌ {A = ℕ} 0 1 = cc in omega arith))
read_kept L1 h = absurd (h (λ q. let n : ◌≡◌ {A = ℕ} 0 1 = cc in omega arith))
read_kept L2 h = refl

not_sent : (p : Pending) (l : Level) → (CanBeSent p l → ⊥) → sendable p l ≡ false
not_sent Nothing l h = refl
not_sent (MemoryRead r) l h = read_kept l h
not_sent (BlankReport a) l h = absurd (h tt)
not_sent (OneByte v) l h = absurd (h tt)
not_sent (Start k a) l h = refl

-- ---- UPLOAD

module _ (b : Board) (setup d : List ℕ) (n : ℕ) (passed : refusal b setup d n ≡ 0) where
  sends : (m : ℕ) → request_of setup ≡ Upload m → In b.session.state (5 ∷ 9 ∷ []) → 0 < m → CanBeSent b.session.pending (level b.config)
      → Sends b m b.session.pending (ask b setup d n)
  unfolding respond upload
  sends m e i some_asked h =
      let p : Pending = b.session.pending in
      let u = unrefused b setup d n passed in
      let t = sent p (level b.config) h in
      let answer : ask b setup d n ≡ send b m p =
      answered b setup d n passed (Upload m) e ∙ rw (in_among b.session.state upload_states i, lt-ltb 0 m some_asked, t) in
      subst (Sends b m p) (sym answer) (sends_by b m some_asked p (counted b n u p u.pending_right)
      (rest_left b n u m some_asked p u.pending_right) (ltb m (length (pending_bytes b p))) refl)

  by_pending : ByPending b setup (ask b setup d n)
  unfolding respond upload
  by_pending = record {
    sends = sends;
    elsewhere = λ m e h. stalled b setup d n passed (Upload m) e (upload_stalls b m (not_among b.session.state upload_states h));
    no_byte_asked = λ e. stalled b setup d n passed (Upload 0) e (rw (and-false (among b.session.state upload_states)));
    not_sent = λ m e h.
        let t = not_sent b.session.pending (level b.config) h in
        stalled b setup d n passed (Upload m) e (rw (t, and-false (among b.session.state upload_states && ltb 0 m)));
  }

pub uploads_by_pending : UploadsByPending
uploads_by_pending = by_pending

pub pending_bytes_lem : PendingBytes
pending_bytes_lem = record {
  flash_count = λ b a e f l. rw (length_part a.0 e.0 b.flash) (omega arith);
  flash_bytes = λ b a e i h l. get_d_part a.0 e.0 i b.flash (omega arith);
  eeprom_count = λ b a e f l. rw (length_part a.0 e.0 b.eeprom) (omega arith);
  eeprom_bytes = λ b a e i h l. get_d_part a.0 e.0 i b.eeprom (omega arith);
  report_bytes = λ b h l q.
      let high : (h * 256 + l) / 256 ≡ h = omega arith in
      let low : (h * 256 + l) % 256 ≡ l = omega arith in
      rw (high, low);
  one_byte = λ b v. refl;
  no_bytes = λ b. refl;
}
