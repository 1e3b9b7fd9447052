-- `memory::reading::copy_out` meets its contract: the part of the memory, laid over the front of the buffer.
-- Assumes nothing.
use Rattle.std.proofs.Common.{◌≡◌, ℕ, ◌+◌, ◌-◌, ◌<◌, ◌≤◌, length, take, drop, true, false, List, ◌∙◌, arith, sym, ap, length-drop}
use mathlib.Core.List.{[]}
use Rattle.std.proofs.Math.Seq.{length-take-le}
use Rattle.std.proofs.lemmas.List.{nil_from_length}
use mathlib.Core.Bool.{and-false}
use mathlib.Core.Logic.{◌⊎◌, inl, inr}
use native.Mathlib.Decide.{dec_le}
use borrow.Author.Tests.{lt-leb, le-ltb, leb-true, leb-false}
use Rattle.words.specs.Words.{count, part, fits, laid}
use Rattle.words.proofs.WordsLaws.{overlay_none}
use Rattle.memory.specs.Read.{copyable, copied, buffer_after, Readable}
use Rattle.memory.proofs.ReadLaws.{readable_copyable}
use Rattle.memory.proofs.reading.copy_out.Goals as goal

-- nothing is laid where the bytes do not fit
kept : (d buffer buffer' : List ℕ) → fits 0 d buffer ≡ false → buffer' ≡ laid 0 d buffer → buffer' ≡ buffer
unfolding laid
kept d buffer buffer' t w = rw t at w

module _ (a e : ℕ) (m buffer : List ℕ) where
  none_copied : copyable a e m buffer ≡ false → 0 ≡ copied a e m buffer
  unfolding copied
  none_copied t = rw t

  buffer_kept : copyable a e m buffer ≡ false → buffer ≡ buffer_after a e m buffer
  unfolding buffer_after
  buffer_kept t = rw t

  -- there is no such part
  backward : e < a → copyable a e m buffer ≡ false
  backward h = simp (lt-leb a e h)

  not_there : (first last : ℕ) → first ≡ a → last ≡ e → (last + 1 < first) ⊎ (length m < last + 1) → copyable a e m buffer ≡ false
  not_there first last p q (inl h) = backward (omega arith)
  not_there first last p q (inr h) = let outside : length m ≤ e = omega arith in simp (le-ltb e (length m) outside, and-false)

  -- there is one, and it fits or does not
  module _ (first last : ℕ) (p : first ≡ a) (q : last ≡ e) (f : first ≤ last + 1) (i : last + 1 ≤ length m) (d : List ℕ)
      (its : d ≡ take (last + 1 - first) (drop first m)) where
    same : d ≡ part a e m
    same = let n : last + 1 - first ≡ count a e = omega arith in rw (n, p) at its

    length_d : length d ≡ count a e
    length_d = ap length same ∙ length-take-le (count a e) (drop a m) (simp length-drop (omega arith))

    no_room : fits 0 d buffer ≡ false → copyable a e m buffer ≡ false
    no_room t =
        let w : length buffer < count a e = omega (arith, leb-false (0 + length d) (length buffer) t, length_d) in
        simp (lt-leb (count a e) (length buffer) w, and-false)

    module _ (t : fits 0 d buffer ≡ true) where
      readable : a ≤ e → Readable a e m buffer
      readable h = record { forward = h; inside = omega arith; room = omega (arith, leb-true (0 + length d) (length buffer) t, length_d) }

      counted : Dec (a ≤ e) → length d ≡ copied a e m buffer
      unfolding copied
      counted (yes h) = rw (readable_copyable a e m buffer (readable h)) length_d
      counted (no h) = rw (backward (omega arith)) (omega (arith, length_d))

      over_front : (buffer' : List ℕ) → Dec (a ≤ e) → buffer' ≡ laid 0 d buffer → buffer' ≡ buffer_after a e m buffer
      unfolding buffer_after laid
      over_front buffer' (yes h) w = rw (readable_copyable a e m buffer (readable h), ← same) (rw t at w)
      over_front buffer' (no h) w =
          let none : d ≡ [] = nil_from_length d (omega (arith, length_d)) in
          rw (backward (omega arith)) (rw (t, none) at w ∙ overlay_none 0 buffer)

pub returns-in_default-clause-value : goal.returns-in_default-clause-value
returns-in_default-clause-value c = none_copied _ _ _ _ (not_there _ _ _ _ _ _ (omega arith) (omega arith) c.in_default.ensures.lookup.0)

pub returns-in_default-clause-buffer_after : goal.returns-in_default-clause-buffer_after
returns-in_default-clause-buffer_after c = buffer_kept _ _ _ _ (not_there _ _ _ _ _ _ (omega arith) (omega arith) c.in_default.ensures.lookup.0)

pub returns-then-lay-clause-value : goal.returns-then-lay-clause-value
returns-then-lay-clause-value c =
    let l = c.in-Some.ensures.lookup.0 in
    counted _ _ _ _ _ _ (omega arith) (omega arith) l.0 l.1 _ l.2 (sym c.if-lay.ensures.value) (dec_le _ _)

pub returns-then-lay-clause-buffer_after : goal.returns-then-lay-clause-buffer_after
returns-then-lay-clause-buffer_after c =
    let l = c.in-Some.ensures.lookup.0 in
    over_front _ _ _ _ _ _ (omega arith) (omega arith) l.0 l.1 _ l.2 (sym c.if-lay.ensures.value) _ (dec_le _ _) c.lay.ensures.memory_after

pub returns-else-lay-clause-value : goal.returns-else-lay-clause-value
returns-else-lay-clause-value c =
    let l = c.in-Some.ensures.lookup.0 in
    none_copied _ _ _ _ (no_room _ _ _ _ _ _ (omega arith) (omega arith) l.0 l.1 _ l.2 (sym c.if-lay.ensures.value))

pub returns-else-lay-clause-buffer_after : goal.returns-else-lay-clause-buffer_after
returns-else-lay-clause-buffer_after c =
    let l = c.in-Some.ensures.lookup.0 in
    kept _ _ _ (sym c.if-lay.ensures.value) c.lay.ensures.memory_after
    ∙ buffer_kept _ _ _ _ (no_room _ _ _ _ _ _ (omega arith) (omega arith) l.0 l.1 _ l.2 (sym c.if-lay.ensures.value))
