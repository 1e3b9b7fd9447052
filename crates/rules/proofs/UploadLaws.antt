-- What the proofs of UPLOAD share: what is pending, laid over the front of the reply as far as wLength goes.
-- Assumes nothing.
use mathlib.Core.Path.{◌≡◌, refl, sym, ap, ◌∙◌}
use mathlib.Core.Bool.{true, false, and-false}
use mathlib.Core.List.{List, [], ◌∷◌, ◌++◌}
use Prim.Native.Nat.{ℕ, suc, ◌+◌, ◌-◌, ◌/◌, ◌%◌, ◌≤◌, ◌<◌}
use native.Mathlib.Omega.{arith}
use lib.Dec.{ltb}
use lib.ListN.{length, take, drop, length-drop}
use lib.Seq.{length-take-le, take_all, take-take}
use borrow.Author.Tests.{lt-ltb, le-ltb, le-leb}
use Rattle.words.specs.Words.{among, count, part, laid}
use Rattle.words.proofs.WordsLaws.{overlay_front}
use Rattle.memory.specs.Memory.{range_start, range_end, range_count, memory_size}
use Rattle.config.specs.Level.{level}
use Rattle.memory.specs.Read.{copied, buffer_after, selected, read_count, read_buffer}
use Rattle.memory.specs.declared.address.FlashAddress.{FlashAddress}
use Rattle.memory.specs.declared.address.Range.{Range}
use Rattle.memory.specs.declared.address.Range.TheVariants.{Flash, Eeprom}
use Rattle.config.specs.declared.config.Config.{Config}
use Rattle.command.proofs.AddressLaws.{Good, bad_ends_good}
use Rattle.rules.specs.Session.{Session, idle_with, Pending, Nothing, MemoryRead, BlankReport, OneByte}
use Rattle.rules.specs.Result.{Board, board, Answer, answer}
use Rattle.rules.specs.Commands.{stall}
use Rattle.rules.specs.Requests.{sendable, range_content, pending_bytes, pending_count, rest_of, pending_after, send, upload_states, upload}
use Rattle.rules.specs.Answered.{bare, Replied, Sizes, Sendable, first_of, send_pending, sent_answer}
use Rattle.rules.proofs.StatusLaws.{reply_laid}
use Rattle.rules.proofs.PerformLaws.{selected_sized}

-- the reply of a send, from its bytes and their count k
module _ (b : Board) (n : ℕ) (q : Pending) (k : ℕ) (p p' : List ℕ) (told : k ≡ length (take n (pending_bytes b q)))
    (over : p' ≡ take n (pending_bytes b q) ++ drop (length (take n (pending_bytes b q))) p) where
  more_remains : {a : Answer} → ltb n (pending_count q) ≡ true → a ≡ sent_answer b.config 9 (pending_after n q) b.session.busy k
      → Replied (send b n q) a p' p
  unfolding send
  more_remains t h = record { answered = h ∙ rw (t, told); reply = over }

  none_remains : {a : Answer} → ltb n (pending_count q) ≡ false → a ≡ sent_answer b.config 2 Nothing b.session.busy k → Replied (send b n q) a p' p
  unfolding send
  none_remains t h = record { answered = h ∙ rw (t, told); reply = over }

-- the bytes from a to x of a memory, read over the front of a reply, are the first n of those from a to e
module _ (a e x n k : ℕ) (m p : List ℕ) (last : suc x ≡ a + k) (some_bytes : 0 < k) (inside : x < length m) (room : k ≤ length p)
    (those : take n (part a e m) ≡ take k (drop a m)) where
  counted : count a x ≡ k
  counted = omega arith

  as_many : length (take n (part a e m)) ≡ k
  as_many = ap length those ∙ length-take-le k (drop a m) (simp length-drop (omega arith))

  how_many : copied a x m p ≡ length (take n (part a e m))
  unfolding copied
  how_many = rw (le-leb a x (omega arith), lt-ltb x (length m) inside, counted, le-leb k (length p) room) (sym as_many)

  over_front : buffer_after a x m p ≡ take n (part a e m) ++ drop (length (take n (part a e m))) p
  unfolding buffer_after
  over_front =
      rw (le-leb a x (omega arith), lt-ltb x (length m) inside, counted, le-leb k (length p) room, those) (overlay_front (take k (drop a m)) p)

-- what is pending is the part from a to e of a memory m
module _ (b : Board) (q : Pending) (a e n k : ℕ) (m p p' : List ℕ) (bytes : pending_bytes b q ≡ part a e m) (all : pending_count q ≡ count a e)
    (forward : a ≤ e) (inside : e < length m) (room : count a e ≤ length p) (asked : 0 < n) where
  first_part : {z : Answer} → n < count a e → k ≡ copied a (a + (n - 1)) m p → p' ≡ buffer_after a (a + (n - 1)) m p
      → z ≡ sent_answer b.config 9 (pending_after n q) b.session.busy k → Replied (send b n q) z p' p
  first_part l j g h =
      let x : ℕ = a + (n - 1) in
      let those : take n (part a e m) ≡ take n (drop a m) = take-take n (count a e) (drop a m) (omega arith) in
      let u : suc x ≡ a + n = omega arith in
      let v : x < length m = omega arith in
      let w : n ≤ length p = omega arith in
      more_remains b n q k p p' (rw bytes (j ∙ how_many a e x n n m p u asked v w those))
      (rw bytes (g ∙ over_front a e x n n m p u asked v w those)) (rw all (lt-ltb n (count a e) l)) h

  whole_part : {z : Answer} → count a e ≤ n → k ≡ copied a e m p → p' ≡ buffer_after a e m p → z ≡ sent_answer b.config 2 Nothing b.session.busy k
      → Replied (send b n q) z p' p
  whole_part l j g h =
      let c : ℕ = count a e in
      let len : length (part a e m) ≡ c = length-take-le c (drop a m) (simp length-drop (omega arith)) in
      let those : take n (part a e m) ≡ part a e m = take_all n (part a e m) (omega arith) in
      let u : suc e ≡ a + c = omega arith in
      let v : 0 < c = omega arith in
      none_remains b n q k p p' (rw bytes (j ∙ how_many a e e n c m p u v inside room those))
      (rw bytes (g ∙ over_front a e e n c m p u v inside room those)) (rw all (le-ltb n (count a e) l)) h

-- a memory read, by the memory that its range selects; of the session the busy count alone is looked at
module _ (busy : ℕ) (c : Config) (f e p : List ℕ) (n k : ℕ) (p' : List ℕ) where
  abbrev b : Board
  b = board (idle_with busy) c f e

  bytes_of : (r : Range) → range_content b r ≡ part (range_start r) (range_end r) (selected r f e)
  bytes_of (Flash x y) = refl
  bytes_of (Eeprom x y) = refl

  inside_of : (r : Range) → Sizes f e → range_end r < memory_size r → range_end r < length (selected r f e)
  inside_of r s h = let z = selected_sized r f e s in omega arith

  first_count : (r : Range) → read_count (first_of n r) f e p ≡ copied (range_start r) (range_start r + (n - 1)) (selected r f e) p
  first_count (Flash x y) = refl
  first_count (Eeprom x y) = refl

  first_buffer : (r : Range) → read_buffer (first_of n r) f e p ≡ buffer_after (range_start r) (range_start r + (n - 1)) (selected r f e) p
  first_buffer (Flash x y) = refl
  first_buffer (Eeprom x y) = refl

  module _ (r : Range) (h : Sendable n (MemoryRead r) f e p) where
    good : Good (memory_size r) (range_start r) (range_end r)
    good = bad_ends_good (memory_size r) (range_start r) (range_end r) h.pending_right

    roomy : range_count r ≤ length p
    roomy = let i = good.short in let u = h.ready.room in omega arith

    pub reads_first : {z : Answer} → n < range_count r → k ≡ read_count (first_of n r) f e p → p' ≡ read_buffer (first_of n r) f e p
        → z ≡ sent_answer c 9 (MemoryRead (rest_of n r)) busy k → Replied (send b n (MemoryRead r)) z p' p
    reads_first l j g q =
        first_part b (MemoryRead r) (range_start r) (range_end r) n k (selected r f e) p p' (bytes_of r) refl good.forward
        (inside_of r h.ready.sizes good.inside) roomy h.some_asked l (j ∙ first_count r) (g ∙ first_buffer r) q

    pub reads_all : {z : Answer} → range_count r ≤ n → k ≡ read_count r f e p → p' ≡ read_buffer r f e p → z ≡ sent_answer c 2 Nothing busy k
        → Replied (send b n (MemoryRead r)) z p' p
    reads_all l j g q =
        whole_part b (MemoryRead r) (range_start r) (range_end r) n k (selected r f e) p p' (bytes_of r) refl good.forward
        (inside_of r h.ready.sizes good.inside) roomy h.some_asked l j g q

-- a blank report and one byte
module _ (busy : ℕ) (c : Config) (n : ℕ) (p p' : List ℕ) (room : 1024 ≤ length p) where
  abbrev lone : Board
  lone = bare (idle_with busy) c

  pub report_first : (x : FlashAddress) {z : Answer} → n ≡ 1 → p' ≡ laid 0 (x.0 / 256 ∷ []) p → z ≡ sent_answer c 9 (OneByte (x.0 % 256)) busy 1
      → Replied (send lone n (BlankReport x)) z p' p
  report_first x one g h =
      more_remains lone n (BlankReport x) 1 p p' (rw one) (rw one (reply_laid (x.0 / 256 ∷ []) p p' (omega arith) g)) (rw one) h

  pub report_all : (x : FlashAddress) {z : Answer} → 2 ≤ n → p' ≡ laid 0 (x.0 / 256 ∷ x.0 % 256 ∷ []) p → z ≡ sent_answer c 2 Nothing busy 2
      → Replied (send lone n (BlankReport x)) z p' p
  report_all x two g h =
      let those : take n (x.0 / 256 ∷ x.0 % 256 ∷ []) ≡ x.0 / 256 ∷ x.0 % 256 ∷ [] = take_all n _ two in
      none_remains lone n (BlankReport x) 2 p p' (rw those)
      (rw those (reply_laid (x.0 / 256 ∷ x.0 % 256 ∷ []) p p' (omega arith) g)) (le-ltb n 2 two) h

  pub byte_all : (v : ℕ) {z : Answer} → 0 < n → p' ≡ laid 0 (v ∷ []) p → z ≡ sent_answer c 2 Nothing busy 1
      → Replied (send lone n (OneByte v)) z p' p
  byte_all v one g h =
      let those : take n (v ∷ []) ≡ v ∷ [] = take_all n _ one in
      none_remains lone n (OneByte v) 1 p p' (rw those) (rw those (reply_laid (v ∷ []) p p' (omega arith) g)) (le-ltb n 1 one) h

-- UPLOAD by what is pending
module _ (s : Session) (c : Config) (f e : List ℕ) (n : ℕ) where
  pub sends_read : (r : Range) {z : Answer} {p p' : List ℕ} → s.pending ≡ MemoryRead r → sendable (MemoryRead r) (level c) ≡ true
      → Replied (send (board (idle_with s.busy) c f e) n (MemoryRead r)) z p' p → Replied (send_pending (board s c f e) n) z p' p
  unfolding send
  sends_read (Flash x y) q t r = rw (q, t) r
  sends_read (Eeprom x y) q t r = rw (q, t) r

  pub sends_report : (x : FlashAddress) {z : Answer} {p p' : List ℕ} → s.pending ≡ BlankReport x
      → Replied (send (bare (idle_with s.busy) c) n (BlankReport x)) z p' p → Replied (send_pending (board s c f e) n) z p' p
  unfolding send
  sends_report x q r = rw q r

  pub sends_byte : (v : ℕ) {z : Answer} {p p' : List ℕ} → s.pending ≡ OneByte v
      → Replied (send (bare (idle_with s.busy) c) n (OneByte v)) z p' p → Replied (send_pending (board s c f e) n) z p' p
  unfolding send
  sends_byte v q r = rw q r

  module _ {z : Answer} {p : List ℕ} (q : z ≡ answer (stall (bare s c))) where
    stalled : Replied (stall (board s c f e)) z p p
    unfolding stall
    stalled = record { answered = q; reply = refl }

    pub sends_not : sendable s.pending (level c) ≡ false → Replied (send_pending (board s c f e) n) z p p
    sends_not t = rw t stalled

    pub no_bytes : n ≡ 0 → Replied (upload (board s c f e) n) z p p
    unfolding upload
    no_bytes t = rw (t, and-false (among s.state upload_states)) stalled

    pub elsewhere : among s.state upload_states ≡ false → Replied (upload (board s c f e) n) z p p
    unfolding upload
    elsewhere t = rw t stalled

  pub uploads : {z : Answer} {p p' : List ℕ} → among s.state upload_states ≡ true → 0 < n
      → Replied (send_pending (board s c f e) n) z p' p → Replied (upload (board s c f e) n) z p' p
  unfolding upload
  uploads t l r = rw (t, lt-ltb 0 n l) r
