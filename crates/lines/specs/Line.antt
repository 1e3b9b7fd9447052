-- The lines of the bench programs. Assumes nothing: these are definitions and a statement.
use Rattle.std.specs.Prelude.{◌≡◌, List, [], ◌∷◌, ◌++◌, ℕ, ◌/◌, ◌%◌}
use Rattle.lines.specs.Text.{ascii, decimal, hex_digit, hex_byte, hex_bytes}
pub use Rattle.lines.specs.declared.line.Word.{Word}
pub use Rattle.lines.specs.declared.line.Word.TheVariants.{Done, Stall, Start, Answered, Reset, Refused}

-- "`done` .. , `stall`, `start` or `refK`" of a request; of a record `answered`, `reset`, `start` or `refK`: the letters, and the K
abbrev pub letters : Word → List ℕ
letters Done = ascii "done"
letters Stall = ascii "stall"
letters Start = ascii "start"
letters Answered = ascii "answered"
letters Reset = ascii "reset"
letters (Refused k) = ascii "ref"

abbrev pub word_text : Word → List ℕ
word_text (Refused k) = letters (Refused k) ++ decimal k
word_text w = letters w

-- "reply in capital hex or `-`"
abbrev pub reply_text : List ℕ → List ℕ
reply_text [] = ascii "-"
reply_text (b ∷ bs) = hex_bytes (b ∷ bs)

abbrev pub space : List ℕ
space = ascii " "

-- "number from 1, .. state after it, status (two capital hex digits), pages, reply"
unfoldable pub request_line : ℕ → Word → ℕ → ℕ → ℕ → List ℕ → List ℕ
request_line number word state status pages reply =
    decimal number ++ space ++ word_text word ++ space ++ decimal state ++ space ++ hex_byte status ++ space
    ++ decimal pages ++ space ++ reply_text reply ++ ascii "\n"

-- no line for a reply of at most 1,024 bytes is longer; proved in proofs/LineLaws.antt
abbrev pub most_line : ℕ
most_line = 2139

-- nor the lines that state the count and a refusal
abbrev pub most_job_line : ℕ
most_job_line = 25

abbrev pub most_refused_line : ℕ
most_refused_line = 53

-- a count behind a text
abbrev pub count_line : List ℕ → ℕ → List ℕ
count_line text n = text ++ (decimal n ++ ascii "\n")

-- "`job N`", "`refused K at P`"
unfoldable pub job_line : ℕ → List ℕ
job_line n = count_line (ascii "job ") n

unfoldable pub refused_line : ℕ → ℕ → List ℕ
refused_line k p = ascii "refused " ++ decimal k ++ ascii " at " ++ decimal p ++ ascii "\n"

-- the same for a file of records: `records N`, and what stands before a record's answer: number from 1, word, pages
unfoldable pub records_line : ℕ → List ℕ
records_line n = count_line (ascii "records ") n

unfoldable pub head_line : ℕ → Word → ℕ → List ℕ
head_line number word pages = decimal number ++ space ++ word_text word ++ space ++ decimal pages ++ space

-- each line in its parts, of every number
pub record LinesNamed : Type 0 where
  pub request : (number : ℕ) (word : Word) (state status pages : ℕ) (reply : List ℕ) → request_line number word state status pages reply
      ≡ decimal number ++ ascii " " ++ word_text word ++ ascii " " ++ decimal state ++ ascii " " ++ hex_byte status ++ ascii " "
      ++ decimal pages ++ ascii " " ++ reply_text reply ++ ascii "\n"
  pub refused_word : (k : ℕ) → word_text (Refused k) ≡ ascii "ref" ++ decimal k
  pub two_digits : (b : ℕ) (bs : List ℕ) → hex_bytes (b ∷ bs) ≡ hex_digit (b / 16) ∷ hex_digit (b % 16) ∷ hex_bytes bs
  pub reply : (b : ℕ) (bs : List ℕ) → reply_text (b ∷ bs) ≡ hex_bytes (b ∷ bs)
  pub no_reply : reply_text [] ≡ ascii "-"
  pub job : (n : ℕ) → job_line n ≡ ascii "job " ++ decimal n ++ ascii "\n"
  pub refused : (k p : ℕ) → refused_line k p ≡ ascii "refused " ++ decimal k ++ ascii " at " ++ decimal p ++ ascii "\n"
  pub records : (n : ℕ) → records_line n ≡ ascii "records " ++ decimal n ++ ascii "\n"
  pub head : (number : ℕ) (word : Word) (pages : ℕ) → head_line number word pages
      ≡ decimal number ++ ascii " " ++ word_text word ++ ascii " " ++ decimal pages ++ ascii " "

-- neither is longer
abbrev pub most_records_line : ℕ
most_records_line = 29

abbrev pub most_head : ℕ
most_head = 66
