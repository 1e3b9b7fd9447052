-- The statements of specs/Lines.antt hold: the first line feed is found where it stands.
-- Assumes nothing.
use mathlib.Core.Path.{◌≡◌, refl, sym, ap, ◌∙◌}
use mathlib.Core.Bool.{Bool, true, false}
use mathlib.Core.List.{List, [], ◌∷◌}
use Prim.Native.Nat.{ℕ, zero, suc, ◌+◌, ◌-◌, ◌<◌}
use native.Mathlib.Numerals.{add-one}
use native.Mathlib.Omega.{arith}
use lib.Dec.{eqb}
use lib.ListN.{length, drop, get_or, length-drop}
use lib.Seq.{get_or-drop}
use borrow.Author.Tests.{eqb-true, eq-eqb}
use Rattle.words.specs.Words.{byte_at}
use Rattle.listing.specs.Line.{index_of, index_after, line_feed, line_end, text_end, erased_mark, starts_erased}
use Rattle.listing.specs.Records.{records_from}
use Rattle.listing.specs.Lines.{LineAt, RecordsAt, Lines}
use Rattle.listing.proofs.LineLaws.{line_within, cut, not_cut_empty, not_cut_last, not_cut_other, same_refl, same_equal}
use Rattle.listing.proofs.RecordsLaws.{from_none, from_record, from_other}
use Rattle.listing.proofs.FilesHold.{files}

-- ---- the first element that is b

not_there : (t : Bool) (b x i : ℕ) (l : List ℕ) → eqb x b ≡ t → ((j : ℕ) → j < index_of b l → get_or l j 0 ≡ b → ⊥)
    → i < index_after t (index_of b l) → get_or (x ∷ l) i 0 ≡ b → ⊥
not_there true b x i l e later h q = absurd (omega arith)
not_there false b x zero l e later h q = let t = eq-eqb x b q in let z : ◌≡◌ {A = ℕ} 0 1 = cc in absurd (omega arith)
not_there false b x (suc i) l e later h q = later i (omega arith) q

none_before : (b : ℕ) (l : List ℕ) (i : ℕ) → i < index_of b l → get_or l i 0 ≡ b → ⊥
unfolding index_of
none_before b [] i h q = absurd (omega arith)
none_before b (x ∷ l) i h q = not_there (eqb x b) b x i l refl (none_before b l) h q

there : (t : Bool) (b x : ℕ) (l : List ℕ) → eqb x b ≡ t → (index_of b l < length l → get_or l (index_of b l) 0 ≡ b)
    → index_after t (index_of b l) < length (x ∷ l) → get_or (x ∷ l) (index_after t (index_of b l)) 0 ≡ b
there true b x l e later h = eqb-true x b e
there false b x l e later h = later (omega arith)

found : (b : ℕ) (l : List ℕ) → index_of b l < length l → get_or l (index_of b l) 0 ≡ b
unfolding index_of
found b [] h = absurd (omega arith)
found b (x ∷ l) h = there (eqb x b) b x l refl (found b l) h

-- ---- a line, and the records from it on

line_at : (file : List ℕ) (at : ℕ) → LineAt file at
line_at file at =
    let end = line_end file at in
    let size = length-drop at file in
    record {
      no_feed_in_it = λ i a h s q.
          let e : at + (i - at) ≡ i = omega arith in
          none_before line_feed (drop at file) (i - at) (omega arith) (get_or-drop at file (i - at) 0 ∙ ap (byte_at file) e ∙ q);
      at_its_feed = λ h f. sym (get_or-drop at file (index_of line_feed (drop at file)) 0) ∙ found line_feed (drop at file) (omega (arith, size));
      in_the_file = λ h. (omega arith, line_within file at h);
      return_cut = λ s f r. cut file at end (record { some = s; feed = f; return = r });
      no_return = not_cut_other file at end;
      no_feed = not_cut_last file at end;
      no_character = not_cut_empty file at end;
    }

records_at : (file : List ℕ) (at : ℕ) → RecordsAt file at
records_at file at =
    let behind : records_from file (suc (line_end file at)) ≡ records_from file (line_end file at + 1)
    = ap (records_from file) (sym (add-one (line_end file at))) in
    record {
      no_line = from_none file at;
      record_line = λ h s n. rw add-one (from_record file at h (files.record_line file at (text_end file at) s n));
      note_line = λ h n. from_other file at h (files.note_line file at (text_end file at) n) ∙ behind;
      empty_line = λ h e. from_other file at h (files.empty_line file at (text_end file at) e) ∙ behind;
    }

pub lines_hold : Lines
unfolding starts_erased
lines_hold = record {
  most_bytes = refl;
  lines = line_at;
  records = records_at;
  of_span = λ start end. (refl, refl);
  first_met_lem = λ start end ss. refl;
  none_met = refl;
  erased = λ file. (same_equal _ erased_mark, λ q. rw q (same_refl erased_mark));
}
