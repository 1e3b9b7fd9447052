-- The causes of specs/Causes.antt hold.
-- Assumes nothing.
use mathlib.Core.Path.{◌≡◌, refl}
use mathlib.Core.Bool.{Bool, true, false}
use mathlib.Core.List.{List}
use Prim.Native.Nat.{ℕ, ◌+◌}
use lib.ListN.{length}
use lib.Dec.{ltb}
use borrow.Author.Tests.{ne_eqb, le-leb, lt-leb, le-ltb, lt-ltb, ltb-false}
use Rattle.words.specs.Words.{byte_at, high_first}
use Rattle.words.proofs.WordsLaws.{or_false}
use Rattle.job.specs.Field.{setup_size, most_note, most_depth, value_at, end_at, beyond, tag_refusal}
use Rattle.job.specs.Verdict.{most_file, verdict}
use Rattle.job.specs.Requests.{requests_of}
use Rattle.job.specs.Causes.{Whole, FieldCauses, Causes}

module _ (file : List ℕ) (at end : ℕ) where
  pub not_beyond : Whole file at end → beyond file at end ≡ false
  not_beyond w = rw (le-ltb end (value_at at) w.head, le-ltb end (end_at file at) w.value)

  whole : beyond file at end ≡ false → Whole file at end
  whole q =
      let o = or_false (ltb end (value_at at)) (ltb end (end_at file at)) q in
      record { head = ltb-false end (value_at at) o.0; value = ltb-false end (end_at file at) o.1 }

  pub is_beyond : (Whole file at end → ⊥) → (t : Bool) → beyond file at end ≡ t → t ≡ true
  is_beyond h true q = refl
  is_beyond h false q = absurd (h (whole q))

field_causes : (file : List ℕ) (at end depth : ℕ) → FieldCauses file at end depth
unfolding tag_refusal
field_causes file at end depth =
    let inside = not_beyond file at end in
    let size = high_first file (at + 1) in
    record {
      eleven = λ h. rw (is_beyond file at end h (beyond file at end) refl);
      twelve = λ w r g n. rw (inside w, ne_eqb (byte_at file at) 0x01 r, ne_eqb (byte_at file at) 0x02 g, ne_eqb (byte_at file at) 0x03 n);
      thirteen = λ w t h. rw (inside w, t, le-leb most_depth depth h);
      group = λ w t h. rw (inside w, t, lt-leb most_depth depth h);
      fourteen = λ w t h. rw (inside w, t, lt-ltb size setup_size h);
      request = λ w t h. rw (inside w, t, le-ltb size setup_size h);
      fifteen = λ w t h. rw (inside w, t, lt-ltb most_note size h);
      note = λ w t h. rw (inside w, t, le-ltb most_note size h);
    }

pub causes : Causes
unfolding verdict requests_of
causes = record {
  field = field_causes;
  sixteen = λ file h. rw (lt-ltb most_file (length file) h) (refl, refl);
  none_held = λ file h. rw (lt-ltb most_file (length file) h);
  accepted_0 = (refl, refl);
  refused_k = λ c p. (refl, refl);
  numbers = (refl, refl, refl, refl, refl, refl);
  request_met = λ start size. (refl, refl, refl);
  none_met = (refl, refl, refl);
}
