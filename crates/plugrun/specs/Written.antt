-- What the serial plug's program writes for the file of records that it reads, and examples of it, proved in proofs/ExamplesHold.antt.
use Rattle.std.specs.Prelude.{if◌then◌else◌, ◌≡◌, List, [], ◌∷◌, ◌++◌, ℕ, suc, ◌+◌, ◌-◌, ◌*◌, ◌≤◌, ◌<◌, ltb, length, take, drop, true, false}
use Rattle.lines.specs.Text.{ascii, decimal, hex_digit}
use Rattle.lines.specs.Line.{word_text, head_line, records_line, refused_line}
use Rattle.lines.specs.declared.line.Word.{Word}
use Rattle.lines.specs.declared.line.Word.TheVariants as W
use Rattle.listing.specs.Line.{starts_erased}
use Rattle.listing.specs.declared.walk.Span.{Span}
use Rattle.listing.specs.Records.{most_file, records_of, record_count}
use Rattle.plug.specs.declared.board.Config.{Config}
use Rattle.memory.specs.Memory.{flash_address}
use Rattle.memory.specs.declared.address.FlashAddress.{FlashAddress}
use Rattle.plug.specs.declared.answer.Outcome.{Outcome}
use Rattle.plug.specs.declared.answer.Outcome.TheVariants.{Answered, StartedReset, StartedAt, Refused}
use Rattle.plug.specs.Config.{delivered_config, erased_config}
use Rattle.plug.specs.Answers.{line_end, hex_address}
use Rattle.plug.specs.Step.{Board, board, Result, next, pages, answer, blank_flash}

-- ---- one record

-- `answered`, `reset`, `start` or `refK`
abbrev pub word_of : Outcome → Word
word_of Answered = W.Answered
word_of StartedReset = W.Reset
word_of (StartedAt a) = W.Start
word_of (Refused n) = W.Refused n

-- the same in letters, of every start and every refusal
pub record WordsNamed : Type 0 where
  pub answered : word_text (word_of Answered) ≡ ascii "answered"
  pub reset : word_text (word_of StartedReset) ≡ ascii "reset"
  pub started : (a : FlashAddress) → word_text (word_of (StartedAt a)) ≡ ascii "start"
  pub refused : (n : ℕ) → word_text (word_of (Refused n)) ≡ ascii "ref" ++ decimal n

-- the answer's own characters, with their CR and LF; the four digits of the address that is started at; `-` for no answer
abbrev pub answer_text : Outcome → List ℕ → List ℕ
answer_text Answered characters = characters
answer_text StartedReset characters = ascii "-\n"
answer_text (StartedAt a) characters = hex_address a.0 ++ ascii "\n"
answer_text (Refused n) characters = ascii "-\n"

-- the text of a record, the number-th: number, word, pages and answer
abbrev pub record_text : ℕ → Result → List ℕ
record_text number r = head_line number (word_of r.outcome) (pages r) ++ answer_text r.outcome r.text

-- what a board answers to the record whose characters lie there
abbrev pub asked : List ℕ → Span → Board → Result
asked file s b = answer b (take (s.end - s.start) (drop s.start file))

-- ---- the whole file

-- a file whose first line is exactly `#erased` is run on a board after a full chip erase, any other on a delivered one
unfoldable pub start_config : List ℕ → Config
start_config file = if starts_erased file then erased_config delivered_config else delivered_config

-- "all memory FFh"
abbrev pub start_board : List ℕ → Board
start_board file = board (start_config file) blank_flash

-- the records run one after another, number from 1: each finds the flash and the configuration that the one before it left
unfoldable pub record_texts : List ℕ → Board → ℕ → List Span → List (List ℕ)
record_texts file b number [] = []
record_texts file b number (s ∷ ss) =
    let r : Result = asked file s b in
    record_text number r ∷ record_texts file (next b r) (suc number) ss

-- `records N`; a file that is too long is refused with 16, and holds no records
unfoldable pub first_text : List ℕ → List ℕ
first_text file = if ltb most_file (length file) then refused_line 16 0 else records_line (record_count file)

-- the pieces that are written one after another: the first line, and then the text of each record
unfoldable pub pieces : List ℕ → List (List ℕ)
pieces file = first_text file ∷ record_texts file (start_board file) 1 (records_of file)

-- all that the program writes for a file
abbrev pub in_a_row : List (List ℕ) → List ℕ
in_a_row [] = []
in_a_row (x ∷ xs) = x ++ in_a_row xs

unfoldable pub written : List ℕ → List ℕ
written file = in_a_row (pieces file)

-- the same in parts, of every file, board and result
pub record Parts : Type 0 where
  pub text : (number : ℕ) (r : Result) → record_text number r
      ≡ (decimal number ++ ascii " " ++ word_text (word_of r.outcome) ++ ascii " " ++ decimal (pages r) ++ ascii " ") ++ answer_text r.outcome r.text
  pub answered : (t : List ℕ) → answer_text Answered t ≡ t
  pub reset : (t : List ℕ) → answer_text StartedReset t ≡ ascii "-\n"
  pub refused : (n : ℕ) (t : List ℕ) → answer_text (Refused n) t ≡ ascii "-\n"
  pub started : (t : List ℕ) (a b c d : ℕ) → a < 16 → b < 16 → c < 16 → d < 16
      → answer_text (StartedAt (flash_address (4096 * a + 256 * b + 16 * c + d))) t ≡ hex_digit a ∷ hex_digit b ∷ hex_digit c ∷ hex_digit d ∷ ascii "\n"
  pub erased_board : (file : List ℕ) → starts_erased file ≡ true → start_board file ≡ board (erased_config delivered_config) blank_flash
  pub other_board : (file : List ℕ) → starts_erased file ≡ false → start_board file ≡ board delivered_config blank_flash
  -- each record finds the board that the one before it left
  pub goes_on : (file : List ℕ) (b : Board) (number : ℕ) (s : Span) (ss : List Span)
      → record_texts file b number (s ∷ ss) ≡ record_text number (asked file s b) ∷ record_texts file (next b (asked file s b)) (suc number) ss
  pub asks : (file : List ℕ) (s : Span) (b : Board) → asked file s b ≡ answer b (take (s.end - s.start) (drop s.start file))
  pub all : (file : List ℕ) → pieces file ≡ first_text file ∷ record_texts file (start_board file) 1 (records_of file)
  -- one piece after another, and nothing between them or behind them
  pub in_a_row_lem : (file : List ℕ) → written file ≡ in_a_row (pieces file)
  pub piece_and_rest : (x : List ℕ) (xs : List (List ℕ)) → in_a_row (x ∷ xs) ≡ x ++ in_a_row xs
  pub no_piece : in_a_row [] ≡ []
  pub no_record : (file : List ℕ) (b : Board) (number : ℕ) → record_texts file b number [] ≡ []
  pub first : (file : List ℕ) → length file ≤ 1048576 → first_text file ≡ ascii "records " ++ decimal (record_count file) ++ ascii "\n"

-- ---- examples: SSB as delivered is FCh, and FFh after a full chip erase

abbrev pub Delivered : Type 0
Delivered = written (ascii ":020000050700F2\n") ≡ ascii "records 1\n1 answered 0 FC." ++ line_end

abbrev pub Erased : Type 0
Erased = written (ascii "#erased\n:020000050700F2\n") ≡ ascii "records 1\n1 answered 0 FF." ++ line_end

-- BSB is set to 55h and read; 55h is stored at 0010h and displayed with the byte after it, which is FFh; then come both starts, and a
-- record that is too short
abbrev pub CarriedOn : Type 0
CarriedOn =
    written
    (ascii "#erased\n:030000030600559F\n:020000050701F1\n# stored and displayed\n:01001000559A\n:050000040010001100D6\n"
    ++ ascii ":020000030300F8\n:0400000303011234AF\n:00\n")
    ≡ ascii "records 7\n1 answered 0 ." ++ line_end ++ ascii "2 answered 0 55." ++ line_end ++ ascii "3 answered 1 ." ++ line_end
    ++ ascii "4 answered 0 0010=55FF" ++ line_end
    ++ ascii "5 reset 0 -\n6 start 0 1234\n7 ref17 0 -\n"

abbrev pub EmptyFile : Type 0
EmptyFile = written [] ≡ ascii "records 0\n"

abbrev pub TooLong : Type 0
TooLong = (file : List ℕ) → 1048576 < length file → written file ≡ ascii "refused 16 at 0\n"
