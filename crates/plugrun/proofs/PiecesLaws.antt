-- The pieces of a file's text, one after another: each turn gives the next, and after the last none is left.
-- Assumes nothing.
use Rattle.std.specs.Prelude.{if◌then◌else◌, Option, Some, None}
use mathlib.Core.Logic.{⊎_elim}
use mathlib.Core.Path.{◌≡◌, refl, sym, ap, ◌∙◌}
use mathlib.Core.Bool.{Bool, true, false}
use mathlib.Core.List.{List, [], ◌∷◌}
use Prim.Native.Nat.{ℕ, zero, suc, ◌-◌, ◌≤◌, ◌<◌}
use native.Mathlib.Nat.{zero-add}
use native.Mathlib.Omega.{arith}
use lib.Dec.{ltb}
use lib.ListN.{length, take, drop, get_or, length-drop}
use lib.Seq.{ext_get_or}
use Rattle.words.specs.Words.{laid}
use Rattle.words.proofs.WordsLaws.{length_overlay}
use Rattle.lines.specs.Line.{records_line, refused_line, most_refused_line}
use Rattle.lines.specs.Room.{put, put_end, Stands}
use Rattle.lines.proofs.LineLaws.{records_line_le, refused_line_le}
use Rattle.lines.proofs.RoomLaws.{put_stands}
use Rattle.listing.specs.declared.walk.Span.{Span}
use Rattle.listing.specs.Records.{most_file, records_from, records_of, record_count, first_met}
use Rattle.listing.proofs.LineLaws.{which}
use Rattle.listing.proofs.RecordsLaws.{Steps, steps, from_none, no_more, records_few}
use Rattle.plug.specs.Step.{Board, board, Result, next, blank_flash}
use Rattle.plugrun.specs.Written.{record_text, asked, start_board, record_texts, first_text, pieces, in_a_row, written}
use Rattle.plugrun.specs.Turn.{Progress, Turn, Left, progress, board_at, took, met_turn, turned}
use Rattle.plugrun.specs.Turn.{most_text, start_place, start_progress, IsPiece, HandedOnInOrder}
use Rattle.plugrun.proofs.TurnLaws.{text_front, record_text_le}

-- ---- the definitions

-- the text of the first record, and then the texts of the rest
texts_first : (file : List ℕ) (b : Board) (number : ℕ) (s : Span) (ss : List Span)
    → record_texts file b number (s ∷ ss) ≡ record_text number (asked file s b) ∷ record_texts file (next b (asked file s b)) (suc number) ss
unfolding record_texts
texts_first file b number s ss = refl

first_text_le : (file : List ℕ) → length (first_text file) ≤ most_refused_line
unfolding first_text
first_text_le file = either (ltb most_file (length file)) where
  either : (t : Bool) → length (if t then refused_line 16 0 else records_line (record_count file)) ≤ most_refused_line
  either true = refused_line_le 16 0
  either false = omega (arith, records_line_le (record_count file))

-- from where the walk begins come the file's records
start_records : (file : List ℕ) → records_from file (start_place file) ≡ records_of file
unfolding records_of
start_records file =
    ⊎_elim (λ e. rw e (from_none file (length file) (omega arith))) (λ e. rw e) (which (ltb most_file (length file)))

-- the piece that stands first among those that are left
next_piece : (xs ys : List (List ℕ)) (n : ℕ) (y : List ℕ) → drop n xs ≡ y ∷ ys → (get_or xs n [] ≡ y) × (n < length xs) × (drop (suc n) xs ≡ ys)
next_piece [] ys zero y e = let z : ◌≡◌ {A = ℕ} 0 1 = cc in absurd (omega arith)
next_piece [] ys (suc n) y e = let z : ◌≡◌ {A = ℕ} 0 1 = cc in absurd (omega arith)
next_piece (x ∷ xs) ys zero y e = (cc, omega arith, cc)
next_piece (x ∷ xs) ys (suc n) y e = let t = next_piece xs ys n y e in (t.0, omega (arith, t.1), t.2)

-- as many texts as there are records, which are not more than the file has bytes
texts_count : (file : List ℕ) (b : Board) (number : ℕ) (ss : List Span) → length (record_texts file b number ss) ≡ length ss
unfolding record_texts
texts_count file b number [] = refl
texts_count file b number (s ∷ ss) = ap suc (texts_count file (next b (asked file s b)) (suc number) ss)

pieces_few : (file : List ℕ) → length (pieces file) ≤ suc (length file)
unfolding pieces
pieces_few file = omega (arith, texts_count file (start_board file) 1 (records_of file), records_few file)

-- each text being the piece of its number, the texts are the pieces
pub handed_on_in_order : HandedOnInOrder
unfolding written
handed_on_in_order = record {
  each = λ file number h. record { the_piece = refl; there = h; number_small = omega (arith, pieces_few file) };
  all = λ file texts l each. ap in_a_row (ext_get_or [] texts (pieces file) l (λ i h. (each i h).the_piece));
}

-- ---- a run

-- what is so after so many pieces: those that are left are the texts of the records that are left, on the board as it is now
pub record SoFar (file : List ℕ) (number : ℕ) (p : Progress) (f : List ℕ) : Type 0 where
  pub rest : drop number (pieces file) ≡ record_texts file (board_at p f) number (records_from file p.at)
  pub no_more_than_all : number ≤ length (pieces file)
  pub number_small : number ≤ suc p.at

-- the first piece, put at the front of a room
module _ (file room₀ room : List ℕ) (q : _) (end : ℕ) (fits : most_refused_line ≤ length room₀)
    (l : (q ≡ put 0 (first_text file) room₀) × (room ≡ laid 0 (first_text file) room₀)) (d : end ≡ put_end q) where
  first_stands : Stands 0 (first_text file) room₀ end room
  first_stands = put_stands 0 end (first_text file) room₀ room q (omega (arith, first_text_le file, fits)) l.0 l.1 d

  pub first_within : end ≤ length room
  first_within = omega (arith, first_stands.within, first_stands.same_size)

  pub first_piece : IsPiece file 0 (take end room)
  unfolding pieces
  first_piece = record {
    the_piece = ap (λ (n : ℕ). take n room) (first_stands.ends ∙ zero-add (length (first_text file)))
        ∙ ap (take (length (first_text file))) first_stands.text_laid
        ∙ text_front (first_text file) room₀;
    there = omega arith;
    number_small = omega arith;
  }

pub begun : (file : List ℕ) (p : Progress) (f : List ℕ) → p ≡ start_progress file → f ≡ blank_flash → SoFar file 1 p f
unfolding pieces
begun file p f e q = record {
  rest = rw (e, q, start_records file);
  no_more_than_all = omega arith;
  number_small = omega arith;
}

-- ---- a turn

module _ (file : List ℕ) (number : ℕ) (p : Progress) (f reply room : List ℕ) (s : SoFar file number p f) (l : Left)
    (e : l ≡ turned file number p f reply room) where
  -- by what the walk met
  record Taken : Type 0 where
    span_of : Span
    met : first_met (records_from file p.at) ≡ Some span_of
    left_is : l ≡ took file number (board_at p f) reply room span_of

  of_turn : (m : Option Span) → first_met (records_from file p.at) ≡ m → l ≡ met_turn file number (board_at p f) reply room m
      → (u : Turn) → l.turn ≡ Some u → Taken
  of_turn (Some s) m i u t = record { span_of = s; met = m; left_is = i }
  of_turn None m i u t =
      let no : None ≡ Some u = sym (ap (λ (x : Left). x.turn) i) ∙ t in
      cc

  -- a record was taken
  module _ (u : Turn) (t : l.turn ≡ Some u) where
    taken : Taken
    unfolding turned
    taken = of_turn (first_met (records_from file p.at)) refl e u t

    r : Result
    r = asked file taken.span_of (board_at p f)

    text : List ℕ
    unfolding r
    text = record_text number r

    same_turn : (v w : Turn) → Some v ≡ Some w → v ≡ w
    same_turn v w e = cc

    took_is : (u.progress ≡ progress r.config taken.span_of.end) × (u.size ≡ length text)
    unfolding r text
    took_is =
        let same = same_turn _ _ (sym t ∙ ap (λ (x : Left). x.turn) taken.left_is) in
        (ap (λ (x : Turn). x.progress) same, ap (λ (x : Turn). x.size) same)

    stepped : Steps file p.at taken.span_of.start taken.span_of.end
    stepped = steps file p.at taken.span_of.start taken.span_of.end taken.met

    piece : (get_or (pieces file) number [] ≡ text) × (number < length (pieces file))
        × (drop (suc number) (pieces file) ≡ record_texts file (next (board_at p f) r) (suc number) (records_from file taken.span_of.end))
    unfolding r text
    piece =
        next_piece (pieces file) _ number text
        (s.rest ∙ ap (record_texts file (board_at p f) number) stepped.met ∙ texts_first file (board_at p f) number taken.span_of _)

    -- its text stands at the front of the room, which was lent for every text
    pub same_room : most_text ≤ length room → length l.room ≡ length room
    unfolding r text
    same_room h =
        let fits = record_text_le file number taken.span_of (board_at p f) in
        ap (λ (x : Left). length x.room) taken.left_is ∙ length_overlay 0 text room (omega arith)

    pub size_within : most_text ≤ length room → u.size ≤ length l.room
    unfolding r text
    size_within h =
        omega (arith, record_text_le file number taken.span_of (board_at p f), same_room h, took_is.1)

    -- and is the next piece
    pub is_piece : IsPiece file number (take u.size l.room)
    unfolding r text
    is_piece = record {
      the_piece = ap (λ (n : ℕ). take n l.room) took_is.1 ∙ ap (λ (x : Left). take (length text) x.room) taken.left_is
          ∙ text_front text room
          ∙ sym piece.0;
      there = piece.1;
      number_small = omega (arith, s.number_small, stepped.after, stepped.some, stepped.within);
    }

    pub further : SoFar file (suc number) u.progress l.flash
    unfolding r text
    further =
        let flash : l.flash ≡ (next (board_at p f) r).flash = ap (λ (x : Left). x.flash) taken.left_is in
        let after : board_at u.progress l.flash ≡ next (board_at p f) r = ap (λ (x : Progress). board_at x l.flash) took_is.0 ∙ ap (board r.config) flash in
        let place : u.progress.at ≡ taken.span_of.end = ap (λ (x : Progress). x.at) took_is.0 in
        record {
          rest = piece.2
              ∙ ap (λ (b : Board). record_texts file b (suc number) (records_from file taken.span_of.end)) (sym after)
              ∙ ap (λ (n : ℕ). record_texts file (board_at u.progress l.flash) (suc number) (records_from file n)) (sym place);
          no_more_than_all = omega (arith, piece.1);
          number_small = omega (arith, place, s.number_small, stepped.after, stepped.some);
        }

    pub less_left : length file - u.progress.at < length file - p.at
    less_left = rw took_is.0 (omega (arith, stepped.after, stepped.some, stepped.within))

  -- no record was left
  of_end : (m : Option Span) → first_met (records_from file p.at) ≡ m → l ≡ met_turn file number (board_at p f) reply room m
      → l.turn ≡ None → records_from file p.at ≡ []
  of_end (Some s) m i t =
      let no : ◌≡◌ {A = Option Turn} (took file number (board_at p f) reply room s).turn None = sym (ap (λ (x : Left). x.turn) i) ∙ t in
      cc
  of_end None m i t = no_more (records_from file p.at) m

  pub all_handed_on : l.turn ≡ None → number ≡ length (pieces file)
  unfolding turned record_texts
  all_handed_on t =
      let none : records_from file p.at ≡ [] = of_end (first_met (records_from file p.at)) refl e t in
      let empty : drop number (pieces file) ≡ [] = s.rest ∙ rw none in
      omega (arith, ap length empty, length-drop number (pieces file), s.no_more_than_all)
