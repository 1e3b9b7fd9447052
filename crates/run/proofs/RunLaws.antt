-- Laws of a run: one request and its line, and what is so far after some of them.
-- Assumes nothing.
use Rattle.std.specs.Prelude.{Some, None, Ok, Err, IsOk}
use mathlib.Core.Path.{◌≡◌, refl, sym, ap, subst, ◌∙◌}
use mathlib.Core.List.{List, [], ◌∷◌, ◌++◌, append_assoc, append-nil}
use Prim.Native.Nat.{ℕ, suc, ◌+◌, ◌-◌, ◌*◌, ◌≤◌, ◌<◌}
use native.Mathlib.Omega.{arith}
use lib.ListN.{length, take, drop, replicate}
use lib.Seq.{length-take-le}
use Rattle.std.proofs.lemmas.List.{take_rest}
use Rattle.words.specs.Words.{laid}
use Rattle.config.specs.Config.{delivered_config}
use Rattle.memory.specs.Memory.{eeprom_size, blank_flash}
use Rattle.job.specs.Field.{setup_size}
use Rattle.job.specs.Field.{cause_number}
use Rattle.job.specs.declared.refusal.Refusal.{Refusal}
use Rattle.job.specs.declared.walk.Span.{Span}
use Rattle.job.specs.Verdict.{most_file, verdict, accepted}
use Rattle.job.specs.Requests.{HaveSetups, requests_of, request_count}
use Rattle.job.specs.Walk.{walk, first_met}
use Rattle.job.proofs.VerdictLaws.{file_accepted}
use Rattle.job.proofs.WalkLaws.{steps, no_more, walk_job}
use Rattle.lines.specs.Line.{request_line, job_line, refused_line, most_line, most_job_line}
use Rattle.lines.specs.Room.{put, put_end, Stands}
use Rattle.lines.specs.declared.line.Word.{Word}
use Rattle.lines.proofs.LineLaws.{request_line_le}
use Rattle.lines.proofs.RoomLaws.{none_stands, joined, put_fits, put_there, put_stands}
use Rattle.rules.specs.Session.{idle}
use Rattle.rules.specs.Result.{Board, board, Result, next}
use Rattle.rules.specs.declared.answer.Answer.{Answer}
use Rattle.rules.specs.Answered.{Stepped}
use Rattle.rules.specs.Refusals.{reply_size}
use Rattle.rules.specs.Step.{ask, delivered_board}
use Rattle.run.specs.Bench.{word_of, result_line, asked, lines, bench}
use Rattle.run.specs.Run.{fewest_bytes, most_output, Placed, answer_line, board_at, Ran, Ready}
use Rattle.run.specs.declared.run.Progress.{Progress}

-- ---- one request

-- the parts of the file that the code lends are the request's setup and data
pub stepped_asked : (file : List ℕ) (s : Span) (b : Board) (n : ℕ) (a : Answer) (f e reply reply₀ : List ℕ) → n ≡ reply_size
    → let value = take (s.start + s.size - s.start) (drop s.start file) in
    Stepped b (ask b (take 8 value) (take (length value - 8) (drop 8 value)) n) a f e reply reply₀
    → Stepped b (asked file s b) a f e reply reply₀
stepped_asked file s b n a f e reply reply₀ h t =
    let size : s.start + s.size - s.start ≡ s.size = omega arith in
    rw (take_rest (take (s.start + s.size - s.start) (drop s.start file)) 8, size, h) at t

-- a request's line fits
module _ (number place : ℕ) (a : Answer) (w : Word) (reply room₀ : List ℕ) (q : _) (h : (a.length ≤ length reply) × (length reply ≡ reply_size))
    (r : place + most_line ≤ length room₀)
    (put_there_is : q ≡ put place (request_line number w a.session.state a.session.status a.pages (take a.length reply)) room₀) where
  short : length (request_line number w a.session.state a.session.status a.pages (take a.length reply)) ≤ most_line
  short =
      let n : length (take a.length reply) ≡ a.length = length-take-le a.length reply h.0 in
      request_line_le number w a.session.state a.session.status a.pages (take a.length reply) (omega (arith, n, h.0, h.1))

  pub line_fits : IsOk q
  line_fits = put_fits _ _ _ _ put_there_is (omega (arith, short, r))

  pub line_stands : (end : ℕ) (room : List ℕ) → w ≡ word_of a.outcome
      → room ≡ laid place (request_line number w a.session.state a.session.status a.pages (take a.length reply)) room₀ → q ≡ Ok end
      → Stands place (answer_line number a reply) room₀ end room × (end ≤ place + most_line)
  line_stands end room e l d =
      let t = put_there _ _ _ _ _ _ put_there_is l d (omega (arith, short, r)) in
      (rw (← e) t, omega (arith, short, t.ends))

-- ---- a run

-- the line of the first request, and then the lines of the rest
lines_first : (file : List ℕ) (b : Board) (number : ℕ) (s : Span) (ss : List Span)
    → lines file b number (s ∷ ss) ≡ result_line number (asked file s b) ++ lines file (next b (asked file s b)) (suc number) ss
unfolding lines
lines_first file b number s ss = refl

-- what is so: the lines written and those to come are the whole job's, the room has those written, and there is room for the rest
pub record SoFar (file f₀ e₀ room₀ : List ℕ) (place : ℕ) (f e reply room : List ℕ) (p : Progress) (cursor : ℕ) : Type 0 where
  pub written : List ℕ
  pub whole : written ++ lines file (board_at p f e) p.number (walk file cursor) ≡ lines file (board idle delivered_config f₀ e₀) 1 (walk file 0)
  pub stands : Stands place written room₀ p.place room
  pub setups : HaveSetups (walk file cursor)
  pub reply_size_lem : length reply ≡ reply_size
  pub file_size : length file ≤ most_file
  pub number_small : p.number ≤ cursor + 1
  pub lines_fit : fewest_bytes * p.place + most_line * length file ≤ fewest_bytes * length room + most_line * cursor

pub at_start : (file f e reply room : List ℕ) (place : ℕ) (p : Progress) → Ready file reply room place → p.session ≡ idle
    → p.config ≡ delivered_config → p.number ≡ 1 → p.place ≡ place
    → SoFar file f e room place f e reply room p 0
at_start file f e reply room place p r s c n q = record {
  written = [];
  whole = rw (s, c, n);
  stands = rw q (none_stands place room (omega (arith, r.lines_fit)));
  setups = r.setups;
  reply_size_lem = r.reply_size_lem;
  file_size = r.file_size;
  number_small = omega (arith, n);
  lines_fit = omega (arith, q, r.lines_fit);
}

module _ (file f₀ e₀ room₀ : List ℕ) (place : ℕ) (f e reply room : List ℕ) (p : Progress) (cursor : ℕ)
    (s : SoFar file f₀ e₀ room₀ place f e reply room p cursor) where
  -- the walk meets a request
  module _ (n : Span) (m : first_met (walk file cursor) ≡ Some n) where
    met_setup : setup_size ≤ n.size
    met_setup = (rw (steps file cursor n.start n.size m).met at s.setups).0

    pub placed : Placed file n
    placed = record { in_file = (steps file cursor n.start n.size m).within; has_setup = met_setup }

    pub room_left : p.place + most_line ≤ length room
    room_left = let t = steps file cursor n.start n.size m in omega (arith, met_setup, t.after, t.within, s.lines_fit)

    pub number_left : p.number ≤ most_file
    number_left = let t = steps file cursor n.start n.size m in omega (arith, t.after, t.within, s.number_small, s.file_size)

    pub less_left : length file - (n.start + n.size) < length file - cursor
    less_left = let t = steps file cursor n.start n.size m in omega (arith, t.after, t.within)

    pub further : (f' e' reply' room' : List ℕ) (q : Progress) → length reply' ≡ length reply
        → Ran p (board_at p f e) (asked file n (board_at p f e)) q f' e' room room'
        → SoFar file f₀ e₀ room₀ place f' e' reply' room' q (n.start + n.size)
    further f' e' reply' room' q l r =
        let t = steps file cursor n.start n.size m in
        let b : Board = board_at p f e in
        let o : Result = asked file n b in
        let line : List ℕ = result_line p.number o in
        let ss : List Span = walk file (n.start + n.size) in
        let rest : lines file (board_at q f' e') q.number ss ≡ lines file (next b o) (suc p.number) ss
        = ap (λ (x : Board). lines file x q.number ss) r.board_after ∙ ap (λ (k : ℕ). lines file (next b o) k ss) r.number_after_lem in
        record {
          written = s.written ++ line;
          whole = append_assoc s.written line (lines file (board_at q f' e') q.number ss)
              ∙ ap (λ (x : List ℕ). s.written ++ (line ++ x)) rest
              ∙ ap (λ (x : List ℕ). s.written ++ x) (sym (ap (lines file b p.number) t.met ∙ lines_first file b p.number n ss))
              ∙ s.whole;
          stands = joined s.stands r.line;
          setups = (rw t.met at s.setups).1;
          reply_size_lem = l ∙ s.reply_size_lem;
          file_size = s.file_size;
          number_small = omega (arith, r.number_after_lem, met_setup, t.after, s.number_small);
          lines_fit = omega (arith, r.line_short, r.line.same_size, met_setup, t.after, s.lines_fit);
        }

  -- the walk meets no more
  pub finished : first_met (walk file cursor) ≡ None → Stands place (lines file (board idle delivered_config f₀ e₀) 1 (walk file 0)) room₀ p.place room
  unfolding lines
  finished m =
      let n : walk file cursor ≡ [] = no_more (walk file cursor) m in
      let w : s.written ≡ lines file (board idle delivered_config f₀ e₀) 1 (walk file 0)
      = sym (append-nil s.written) ∙ ap (λ (ss : List Span). s.written ++ lines file (board_at p f e) p.number ss) (sym n) ∙ s.whole in
      subst (λ (x : List ℕ). Stands place x room₀ p.place room) w s.stands

-- ---- a whole job

-- a line at the start of a room for every job
pub front_stands : (end most : ℕ) (text room₀ room : List ℕ) (q : _) → length text ≤ most → most ≤ most_output
    → most_output ≤ length room₀ → (q ≡ put 0 text room₀) × (room ≡ laid 0 text room₀) → end ≡ put_end q
    → Stands 0 text room₀ end room × (end ≤ most)
front_stands end most text room₀ room q h k m l d =
    let t = put_stands 0 end text room₀ room q (omega (arith, h, k, m)) l.0 l.1 d in
    (t, omega (arith, h, t.ends))

module _ (file : List ℕ) (g : verdict file ≡ accepted) where
  pub ready : (reply room : List ℕ) (place : ℕ) → length reply ≡ reply_size → most_output ≤ length room → place ≤ most_job_line → Ready file reply room place
  ready reply room place r m h =
      let w = walk_job file g in
      record {
        file_size = (file_accepted file g).0;
        setups = subst HaveSetups (sym w.0) w.1;
        reply_size_lem = r;
        lines_fit = omega (arith, (file_accepted file g).0, m, h);
      }

  -- the job's line and then the lines of its requests, on a board with all memory FFh
  pub job_stands : (count place end : ℕ) (f e room₀ room₁ room : List ℕ) → count ≡ request_count file → f ≡ blank_flash → e ≡ replicate eeprom_size 0xFF
      → Stands 0 (job_line count) room₀ place room₁
      → Stands place (lines file (board idle delivered_config f e) 1 (walk file 0)) room₁ end room
      → Stands 0 (job_line (request_count file) ++ lines file delivered_board 1 (requests_of file)) room₀ end room
  job_stands count place end f e room₀ room₁ room n p q j l =
      let w : lines file (board idle delivered_config f e) 1 (walk file 0) ≡ lines file delivered_board 1 (requests_of file)
      = ap (λ (x : List ℕ). lines file (board idle delivered_config x e) 1 (walk file 0)) p
      ∙ ap (λ (x : List ℕ). lines file (board idle delivered_config blank_flash x) 1 (walk file 0)) q
      ∙ ap (lines file delivered_board 1) (walk_job file g).0 in
      joined
      (subst (λ (k : ℕ). Stands 0 (job_line k) room₀ place room₁) n j)
      (subst (λ (x : List ℕ). Stands place x room₁ end room) w l)

  pub accepted_stands : (end : ℕ) (room₀ room : List ℕ)
      → Stands 0 (job_line (request_count file) ++ lines file delivered_board 1 (requests_of file)) room₀ end room
      → Stands 0 (bench file) room₀ end room
  unfolding bench
  accepted_stands end room₀ room s = rw g s

pub refused_stands : (file : List ℕ) (r : Refusal) (end : ℕ) (room₀ room : List ℕ) → verdict file ≡ Err r
    → Stands 0 (refused_line (cause_number r.cause) r.at) room₀ end room
    → Stands 0 (bench file) room₀ end room
unfolding bench
refused_stands file r end room₀ room g s = rw g s
