-- One turn of the run as the code gives it: the next record of the file is taken. Assumes nothing: these are definitions and
-- statements.
use Rattle.std.specs.Prelude.{if◌then◌else◌, ◌≡◌, Option, Some, None, List, [], ◌∷◌, ◌++◌, ℕ, ◌+◌, ◌≤◌, ◌<◌, ltb, length, take, drop, get_or}
use Rattle.words.specs.Words.{overlay}
use Rattle.lines.specs.Line.{head_line, most_head}
use Rattle.memory.specs.Pages.{store_all}
use Rattle.listing.specs.declared.walk.Span.{Span}
use Rattle.listing.specs.Records.{span, most_file, records_from, first_met}
use Rattle.plug.specs.declared.board.Config.{Config}
use Rattle.plug.specs.declared.answer.Answer.{Answer}
use Rattle.plug.specs.Step.{Board, board, Result, next, answer, step}
use Rattle.plugrun.specs.Written.{word_of, answer_text, record_text, asked, start_config, start_board, pieces, in_a_row, written}
pub use Rattle.plugrun.specs.declared.turn.Progress.{Progress}
pub use Rattle.plugrun.specs.declared.turn.Turn.{Turn}

-- the longest answer is a display of all flash: 4,096 lines of 32 digits and 7 other characters
abbrev pub most_answer : ℕ
most_answer = 159744

-- THE STATEMENT: in a room for the longest every answer is whole; none is 9 for want of room. Proved in proofs/LongestLaws.antt
abbrev pub AnswersWhole : Type 0
AnswersWhole = (b : Board) (characters : List ℕ) (n : ℕ) → most_answer ≤ n → step b characters n ≡ answer b characters

abbrev pub most_text : ℕ
most_text = most_head + most_answer

abbrev pub progress : Config → ℕ → Progress
progress c at = record { config = c; at = at }

-- where the walk from record to record begins: a file that is too long holds none
abbrev pub start_place : List ℕ → ℕ
start_place file = if ltb most_file (length file) then length file else 0

abbrev pub start_progress : List ℕ → Progress
start_progress file = progress (start_config file) (start_place file)

-- the same in numbers: none of the records of such a file is run
pub record StartPlaces : Type 0 where
  pub at_its_end : (file : List ℕ) → 1048576 < length file → start_place file ≡ length file
  pub at_its_beginning : (file : List ℕ) → length file ≤ 1048576 → start_place file ≡ 0
  pub with_its_board : (file : List ℕ) → start_progress file ≡ record { config = (start_board file).config; at = start_place file }

-- a record was taken: what the next turn starts from, and how many bytes its text has
abbrev pub turn_of : Progress → ℕ → Turn
turn_of p n = record { progress = p; size = n }

-- what a turn gives, none where no record was left, and each lent memory after it
pub record Left : Type 0 where
  pub turn : Option Turn
  pub flash : List ℕ
  pub reply : List ℕ
  pub room : List ℕ

abbrev pub left : Option Turn → List ℕ → List ℕ → List ℕ → Left
left t f reply room = record { turn = t; flash = f; reply = reply; room = room }

-- the board in the middle of a run
abbrev pub board_at : Progress → List ℕ → Board
board_at p f = board p.config f

-- the record that lies there is taken: its answer at the front of `reply`, its text at the front of `room`
abbrev pub took : List ℕ → ℕ → Board → List ℕ → List ℕ → Span → Left
took file number b reply room s =
    let r : Result = asked file s b in
    left (Some (turn_of (progress r.config s.end) (length (record_text number r))))
    (next b r).flash (overlay 0 r.text reply) (overlay 0 (record_text number r) room)

-- by what the walk met
abbrev pub met_turn : List ℕ → ℕ → Board → List ℕ → List ℕ → Option Span → Left
met_turn file number b reply room None = left None b.flash reply room
met_turn file number b reply room (Some s) = took file number b reply room s

-- the turn of the record that comes from the place of p on, to which the text gives this number
unfoldable pub turned : List ℕ → ℕ → Progress → List ℕ → List ℕ → List ℕ → Left
turned file number p f reply room = met_turn file number (board_at p f) reply room (first_met (records_from file p.at))

-- the same, by the records that come from the place of p on: the first of them is answered by the board as it is, with its text at the front of
-- the room, and where none is left nothing moves
pub record TurnsTold (file : List ℕ) (number : ℕ) (p : Progress) (f reply room : List ℕ) : Type 0 where
  pub all_taken : records_from file p.at ≡ []
      → turned file number p f reply room ≡ record { turn = None; flash = f; reply = reply; room = room }
  pub took : (start end : ℕ) (ss : List Span) → records_from file p.at ≡ span start end ∷ ss
      → let r : Result = asked file (span start end) (board p.config f) in
      let text = record_text number r in
      turned file number p f reply room ≡ record {
        turn = Some (record { progress = record { config = r.config; at = end }; size = length text });
        flash = store_all r.stored f;
        reply = r.text ++ drop (length r.text) reply;
        room = text ++ drop (length text) room;
      }

pub record EachTurn : Type 0 where
  pub turns : (file : List ℕ) (number : ℕ) (p : Progress) (f reply room : List ℕ) → TurnsTold file number p f reply room
  -- the room for an answer, and the one for its text
  pub rooms : (most_answer ≡ 159744) × (most_text ≡ 159810)
  pub of_left : (t : Option Turn) (f reply room : List ℕ) → left t f reply room ≡ record { turn = t; flash = f; reply = reply; room = room }

-- the text of an answer whose characters stand at the front of the buffer
abbrev pub answered_text : ℕ → Answer → List ℕ → List ℕ
answered_text number a reply = head_line number (word_of a.outcome) a.pages ++ answer_text a.outcome (take a.length reply)

-- what may be handed on as the piece of a number: that piece. The first line has the number 0; no number is larger than the file
pub record IsPiece (file : List ℕ) (number : ℕ) (text : List ℕ) : Type 0 where
  pub the_piece : text ≡ get_or (pieces file) number []
  pub there : number < length (pieces file)
  pub number_small : number ≤ length file

-- THE STATEMENT: each piece may be handed on by its number; and as many texts as there are pieces, each the piece of its number, are in a row all
-- that is written for the file. Proved in proofs/PiecesLaws.antt
pub record HandedOnInOrder : Type 0 where
  pub each : (file : List ℕ) (number : ℕ) → number < length (pieces file) → IsPiece file number (get_or (pieces file) number [])
  pub all : (file : List ℕ) (texts : List (List ℕ)) → length texts ≡ length (pieces file)
      → ((i : ℕ) → i < length texts → IsPiece file i (get_or texts i [])) → in_a_row texts ≡ written file
