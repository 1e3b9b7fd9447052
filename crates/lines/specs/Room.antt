-- Text put into a room. Assumes nothing: these are definitions and a statement.
use Rattle.std.specs.Prelude.{if◌then◌else◌, ◌≡◌, List, ℕ, ◌+◌, ◌≤◌, ◌<◌, length, Result, Ok, Err}
use Rattle.words.specs.Words.{fits, overlay, laid}
use Rattle.lines.specs.Text.{decimal}
use Rattle.lines.specs.Line.{Word, word_text, reply_text}
pub use Rattle.lines.specs.declared.line.TooShort.{TooShort}

-- the one error of a line's writer
abbrev pub too_short : TooShort
too_short = record {}

-- its number: 9
abbrev pub too_short_number : TooShort → ℕ
too_short_number e = 9

-- 9: "room too short"; "refusing, it leaves its room unwritten, and otherwise the room past its answer. Later tools treat their room
-- alike.": the answer for a text from a place on is the place after it. What the room then holds is `laid` of crates/words
unfoldable pub put : ℕ → List ℕ → List ℕ → Result ℕ TooShort
put at text room = if fits at text room then Ok (at + length text) else Err too_short

-- the number of each of its cases, 0 where the text is written and else the refusal's; and the place after the text
abbrev pub put_number : Result ℕ TooShort → ℕ
put_number (Ok end) = 0
put_number (Err e) = too_short_number e

abbrev pub put_end : Result ℕ TooShort → ℕ
put_end (Ok end) = end
put_end (Err e) = 0

-- the same sentences in the paper's numbers, of any text and room
pub record PutNumbered : Type 0 where
  pub written_0 : (end : ℕ) → (put_number (Ok end) ≡ 0) × (put_end (Ok end) ≡ end)
  pub refused_k : (e : TooShort) → (put_number (Err e) ≡ 9) × (put_end (Err e) ≡ 0)
  pub number_written : (at : ℕ) (text room : List ℕ) → at + length text ≤ length room → put_number (put at text room) ≡ 0
  pub end_written : (at : ℕ) (text room : List ℕ) → at + length text ≤ length room → put_end (put at text room) ≡ at + length text
  pub number_refused : (at : ℕ) (text room : List ℕ) → length room < at + length text → put_number (put at text room) ≡ 9
  pub end_refused : (at : ℕ) (text room : List ℕ) → length room < at + length text → put_end (put at text room) ≡ 0
  pub room_refused : (at : ℕ) (text room : List ℕ) → length room < at + length text → laid at text room ≡ room

-- how many bytes a line has, as the code adds them up: those whose number never varies, and then these
abbrev pub request_rest : ℕ
request_rest = 8

abbrev pub job_rest : ℕ
job_rest = 5

abbrev pub refused_rest : ℕ
refused_rest = 13

abbrev pub records_rest : ℕ
records_rest = 9

abbrev pub head_rest : ℕ
head_rest = 3

abbrev pub request_size : ℕ → Word → ℕ → ℕ → List ℕ → ℕ
request_size number word state pages reply =
    request_rest + length (decimal number) + length (word_text word) + length (decimal state) + length (decimal pages) + length (reply_text reply)

abbrev pub job_size : ℕ → ℕ
job_size count = job_rest + length (decimal count)

abbrev pub refused_size : ℕ → ℕ → ℕ
refused_size k p = refused_rest + length (decimal k) + length (decimal p)

abbrev pub records_size : ℕ → ℕ
records_size count = records_rest + length (decimal count)

abbrev pub head_size : ℕ → Word → ℕ → ℕ
head_size number word pages = head_rest + length (decimal number) + length (word_text word) + length (decimal pages)

-- what a writer of one piece promises: the text lies over the room from a place on, `end` is the place after it, and `after` is
-- what the room then holds
pub record Stands (at : ℕ) (text room : List ℕ) (end : ℕ) (after : List ℕ) : Type 0 where
  pub ends : end ≡ at + length text
  pub within : end ≤ length room
  pub same_size : length after ≡ length room
  pub text_laid : after ≡ overlay at text room
