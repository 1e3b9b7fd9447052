-- How the program runs a job, request by request. Assumes nothing: these are definitions and a statement.
use Rattle.std.specs.Prelude.{◌≡◌, List, ℕ, suc, ◌+◌, ◌*◌, ◌≤◌, length, take}
use Rattle.job.specs.Field.{head_size, setup_size}
use Rattle.job.specs.Verdict.{most_file}
use Rattle.job.specs.declared.walk.Span.{Span}
use Rattle.job.specs.Requests.{HaveSetups}
use Rattle.job.specs.Walk.{walk}
use Rattle.lines.specs.Line.{request_line, most_line, most_job_line}
use Rattle.lines.specs.Room.{Stands}
use Rattle.rules.specs.Result.{Board, board, Result, next}
use Rattle.rules.specs.declared.answer.Answer.{Answer}
use Rattle.rules.specs.Refusals.{reply_size}
use Rattle.run.specs.Bench.{word_of, result_line}
use Rattle.run.specs.declared.run.Progress.{Progress}

-- the fewest bytes of a request's field: tag, length and setup
abbrev pub fewest_bytes : ℕ
fewest_bytes = head_size + setup_size

-- no accepted job holds more requests: 16,384 bytes by 11, rounded up
abbrev pub most_requests : ℕ
most_requests = 1490

-- room for every job: the line that states the count, and the lines of its requests
abbrev pub most_output : ℕ
most_output = most_job_line + most_line * most_requests

-- the same in numbers: 25 bytes for `job N`, 2,139 for each line
abbrev pub RoomSaid : Type 0
RoomSaid = most_output ≡ 25 + 2139 * 1490

-- a request's value lies in the file and has its setup
pub record Placed (file : List ℕ) (s : Span) : Type 0 where
  pub in_file : s.start + s.size ≤ length file
  pub has_setup : setup_size ≤ s.size

-- the line of an answer whose reply stands at the start of the buffer
abbrev pub answer_line : ℕ → Answer → List ℕ → List ℕ
answer_line number a reply = request_line number (word_of a.outcome) a.session.state a.session.status a.pages (take a.length reply)

-- the board in the middle of a run
abbrev pub board_at : Progress → List ℕ → List ℕ → Board
board_at p f e = board p.session p.config f e

-- q and the memories f, e and room are what the result r of the board b leaves; before it they were p and room₀
pub record Ran (p : Progress) (b : Board) (r : Result) (q : Progress) (f e room₀ room : List ℕ) : Type 0 where
  pub board_after : board_at q f e ≡ next b r
  pub number_after_lem : q.number ≡ suc p.number
  pub line : Stands p.place (result_line p.number r) room₀ q.place room
  pub line_short : q.place ≤ p.place + most_line

-- a job that can be run: each request that the walk meets has its setup, and the room is long enough for their lines
pub record Ready (file reply room : List ℕ) (place : ℕ) : Type 0 where
  pub file_size : length file ≤ most_file
  pub setups : HaveSetups (walk file 0)
  pub reply_size_lem : length reply ≡ reply_size
  pub lines_fit : fewest_bytes * place + most_line * length file ≤ fewest_bytes * length room
