-- Laws of one turn: the text of an answer, and the record that was taken.
-- Assumes nothing.
use Rattle.std.specs.Prelude.{Some}
use Rattle.std.specs.Prelude.{Ok, IsOk}
use mathlib.Core.Path.{◌≡◌, refl, ap, ◌∙◌}
use mathlib.Core.List.{List}
use Prim.Native.Nat.{ℕ, ◌+◌, ◌-◌, ◌≤◌}
use native.Mathlib.Nat.{zero-add}
use native.Mathlib.Omega.{arith}
use lib.ListN.{length, take, drop, length-append}
use lib.Seq.{take-append_seam}
use Rattle.words.specs.Words.{overlay, laid}
use Rattle.words.proofs.WordsLaws.{overlay_front}
use Rattle.lines.specs.Line.{head_line}
use Rattle.lines.specs.Room.{put, Stands}
use Rattle.lines.specs.declared.line.Word.{Word}
use Rattle.lines.proofs.LineLaws.{head_line_le}
use Rattle.lines.proofs.RoomLaws.{put_fits, put_there}
use Rattle.listing.specs.declared.walk.Span.{Span}
use Rattle.listing.specs.Records.{span}
use Rattle.plug.specs.declared.answer.Answer.{Answer}
use Rattle.plug.specs.declared.answer.Outcome.{Outcome}
use Rattle.plug.specs.declared.answer.Outcome.TheVariants.{Answered, StartedReset, StartedAt, Refused}
use Rattle.plug.specs.Step.{Board, Result, next, pages, step}
use Rattle.plug.specs.Answered.{answer_of, Stepped}
use Rattle.plugrun.specs.Written.{word_of, answer_text, record_text, asked}
use Rattle.plugrun.specs.Turn.{turn_of, most_answer, most_text, progress, left, took, turned, EachTurn, answered_text}
use Rattle.plugrun.proofs.LongestLaws.{answer_short, step_whole}

-- what was laid over the front of a memory
pub text_front : (x m : List ℕ) → take (length x) (overlay 0 x m) ≡ x
text_front x m = ap (take (length x)) (overlay_front x m) ∙ take-append_seam x (drop (length x) m)

pub each_turn : EachTurn
unfolding turned
each_turn = record {
  turns = λ file number p f reply room. record {
    all_taken = λ q. rw q;
    took = λ start end ss q. rw (q, overlay_front, overlay_front);
  };
  rooms = (refl, refl);
  of_left = λ t f reply room. refl;
}

-- ---- the text of an answer

answer_text_le : (o : Outcome) (characters : List ℕ) → length characters ≤ most_answer → length (answer_text o characters) ≤ most_answer
answer_text_le Answered characters h = h
answer_text_le StartedReset characters h = omega arith
answer_text_le (StartedAt a) characters h = omega arith
answer_text_le (Refused n) characters h = omega arith

-- what stands before the answer: it was put at the front of a room for every text
module _ (number pages : ℕ) (w : Word) (q : _) (room₀ room₁ : List ℕ) (fits : most_text ≤ length room₀)
    (l : (q ≡ put 0 (head_line number w pages) room₀) × (room₁ ≡ laid 0 (head_line number w pages) room₀)) where
  head_room : 0 + length (head_line number w pages) ≤ length room₀
  head_room = omega (arith, head_line_le number w pages, fits)

  pub head_fits : IsOk q
  head_fits = put_fits _ _ _ _ l.0 head_room

  pub head_stands : (end : ℕ) → q ≡ Ok end → Stands 0 (head_line number w pages) room₀ end room₁
  head_stands end d = put_there _ _ _ _ _ _ l.0 l.1 d head_room

  -- there is room for an answer behind it
  pub answer_fits : (end : ℕ) → q ≡ Ok end → (o : Outcome) (characters : List ℕ) → length characters ≤ most_answer
      → end + length (answer_text o characters) ≤ length room₁
  answer_fits end d o characters h =
      let head = head_stands end d in
      omega (arith, answer_text_le o characters h, head_line_le number w pages, head.ends, head.same_size, fits)

-- ---- the record that was taken: it was answered in a room for every answer

module _ (file : List ℕ) (number start end n : ℕ) (b : Board) (a : Answer) (f reply reply₀ : List ℕ) (whole : most_answer ≤ n)
    (s : Stepped b (step b (take (end - start) (drop start file)) n) a f reply reply₀) where
  r : Result
  r = asked file (span start end) b

  is_answer : step b (take (end - start) (drop start file)) n ≡ r
  unfolding r
  is_answer = step_whole b (take (end - start) (drop start file)) n whole

  said : a ≡ answer_of r
  said = s.answered ∙ ap answer_of is_answer

  count : a.length ≡ length r.text
  count = ap (λ (x : Answer). x.length) said

  held : reply ≡ overlay 0 r.text reply₀
  held = s.room ∙ ap (λ (x : Result). overlay 0 x.text reply₀) is_answer

  pub length_fits : (a.length ≤ length reply) × (a.length ≤ most_answer)
  unfolding r
  length_fits =
      let short = answer_short b (take (end - start) (drop start file)) in
      let front = ap length (held ∙ overlay_front r.text reply₀) ∙ length-append r.text (drop (length r.text) reply₀) in
      (omega (arith, count, front), omega (arith, count, short))

  pub took_turn : (size : ℕ) (room₀ room : List ℕ) → Stands 0 (answered_text number a reply) room₀ size room
      → left (Some (turn_of (progress a.config end) size)) f reply room ≡ took file number b reply₀ room₀ (span start end)
  unfolding r
  took_turn size room₀ room w =
      let front : take a.length reply ≡ r.text = rw (count, held) (text_front r.text reply₀) in
      let text : answered_text number a reply ≡ record_text number r = rw (front, said) in
      let n : size ≡ length (record_text number r) = w.ends ∙ zero-add _ ∙ ap length text in
      let laid_there : room ≡ overlay 0 (record_text number r) room₀ = w.text_laid ∙ ap (λ x. overlay 0 x room₀) text in
      let stored : f ≡ (next b r).flash = s.flash ∙ ap (λ (x : Result). (next b x).flash) is_answer in
      let config : a.config ≡ r.config = ap (λ (x : Answer). x.config) said in
      rw (n, laid_there, stored, held, config)

-- no text is longer than the room that is lent for it
pub record_text_le : (file : List ℕ) (number : ℕ) (s : Span) (b : Board) → length (record_text number (asked file s b)) ≤ most_text
record_text_le file number s b =
    let r : Result = asked file s b in
    let said = answer_text_le r.outcome r.text (answer_short b (take (s.end - s.start) (drop s.start file))) in
    let head = head_line_le number (word_of r.outcome) (pages r) in
    omega (arith, length-append (head_line number (word_of r.outcome) (pages r)) (answer_text r.outcome r.text), said, head)
