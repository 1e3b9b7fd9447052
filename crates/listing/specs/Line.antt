-- A line of a file, and whether it is a record. A place is an offset from the start of the file. Assumes nothing: these are definitions.
use Rattle.std.specs.Prelude.{if◌then◌else◌, Bool, true, false, not, ◌&&◌, List, [], ◌∷◌, ℕ, suc, ◌+◌, ◌-◌, eqb, ltb, length, take, drop}
use Rattle.words.specs.Words.{byte_at}
use Rattle.lines.specs.Text.{ascii}

-- LF, CR and `#`
abbrev pub line_feed : ℕ
line_feed = 10

abbrev pub carriage_return : ℕ
carriage_return = 13

abbrev pub note_mark : ℕ
note_mark = 35

-- where a byte stands for the first time, and the length of a list in which it does not
abbrev pub index_after : Bool → ℕ → ℕ
index_after true i = 0
index_after false i = suc i

unfoldable pub index_of : ℕ → List ℕ → ℕ
index_of b [] = 0
index_of b (x ∷ l) = index_after (eqb x b) (index_of b l)

-- a line ends with LF or with the file's end: where the LF of the line that begins at a place stands, or else the file's end
abbrev pub line_end : List ℕ → ℕ → ℕ
line_end file at = at + index_of line_feed (drop at file)

-- a CR before the LF belongs to the line's end: of the line from a place up to its LF or the file's end
abbrev pub returns : List ℕ → ℕ → ℕ → Bool
returns file at end = ltb at end && ltb end (length file) && eqb (byte_at file (end - 1)) carriage_return

unfoldable pub without_return : List ℕ → ℕ → ℕ → ℕ
without_return file at end = if returns file at end then end - 1 else end

-- where the characters of the line end that begins at a place
abbrev pub text_end : List ℕ → ℕ → ℕ
text_end file at = without_return file at (line_end file at)

-- empty lines, and lines that begin with `#`, are skipped: the others are records, from a place up to `end`
abbrev pub is_record : List ℕ → ℕ → ℕ → Bool
is_record file at end = ltb at end && not (eqb (byte_at file at) note_mark)

-- a file whose first line is exactly `#erased` is run on a board after a full chip erase
abbrev pub erased_mark : List ℕ
erased_mark = ascii "#erased"

abbrev pub same_bytes : List ℕ → List ℕ → Bool
same_bytes [] [] = true
same_bytes [] (c ∷ cs) = false
same_bytes (b ∷ bs) [] = false
same_bytes (b ∷ bs) (c ∷ cs) = eqb b c && same_bytes bs cs

unfoldable pub starts_erased : List ℕ → Bool
starts_erased file = same_bytes (take (text_end file 0) file) erased_mark
