-- The lines of the bench programs: how long they are.
-- Assumes nothing.
use mathlib.Core.Path.{◌≡◌}
use mathlib.Core.List.{List, [], ◌∷◌}
use Prim.Native.Nat.{ℕ, ◌+◌, ◌≤◌}
use native.Mathlib.Omega.{arith}
use lib.ListN.{length, length-append}
use Rattle.lines.specs.Text.{most_digits}
use Rattle.lines.specs.Line.{Word, Done, Stall, Start, Answered, Reset, Refused, word_text, reply_text}
use Rattle.lines.specs.Line.{request_line, job_line, refused_line, records_line, head_line}
use Rattle.lines.specs.Line.{most_line, most_job_line, most_refused_line, most_records_line, most_head}
use Rattle.lines.specs.Room.{request_size, job_size, refused_size, records_size, head_size}
use Rattle.lines.proofs.TextLaws.{length_decimal, length_hex_bytes}

pub length_request_line : (n : ℕ) (w : Word) (st s p : ℕ) (r : List ℕ) → length (request_line n w st s p r) ≡ request_size n w st p r
unfolding request_line
length_request_line n w st s p r = simp length-append (omega arith)

pub length_job_line : (n : ℕ) → length (job_line n) ≡ job_size n
unfolding job_line
length_job_line n = simp length-append (omega arith)

pub length_refused_line : (k p : ℕ) → length (refused_line k p) ≡ refused_size k p
unfolding refused_line
length_refused_line k p = simp length-append (omega arith)

-- the same of the lines of records
pub length_records_line : (n : ℕ) → length (records_line n) ≡ records_size n
unfolding records_line
length_records_line n = simp length-append (omega arith)

pub length_head_line : (n : ℕ) (w : Word) (p : ℕ) → length (head_line n w p) ≡ head_size n w p
unfolding head_line
length_head_line n w p = simp length-append (omega arith)

length_word_text : (w : Word) → length (word_text w) ≤ 3 + most_digits
length_word_text Done = omega arith
length_word_text Stall = omega arith
length_word_text Start = omega arith
length_word_text Answered = omega arith
length_word_text Reset = omega arith
length_word_text (Refused k) = omega (arith, length_decimal k)

reply_text_le : (r : List ℕ) → length r ≤ 1024 → length (reply_text r) ≤ 2048
reply_text_le [] h = omega arith
reply_text_le (b ∷ bs) h = omega (arith, length_hex_bytes (b ∷ bs))

-- the room that a line needs at most
pub request_line_le : (n : ℕ) (w : Word) (st s p : ℕ) (r : List ℕ) → length r ≤ 1024 → length (request_line n w st s p r) ≤ most_line
request_line_le n w st s p r h = omega (
  arith,
  length_request_line n w st s p r,
  length_decimal n,
  length_decimal st,
  length_decimal p,
  length_word_text w,
  reply_text_le r h,
)

pub job_line_le : (n : ℕ) → length (job_line n) ≤ most_job_line
job_line_le n = omega (arith, length_job_line n, length_decimal n)

pub refused_line_le : (k p : ℕ) → length (refused_line k p) ≤ most_refused_line
refused_line_le k p = omega (arith, length_refused_line k p, length_decimal k, length_decimal p)

pub records_line_le : (n : ℕ) → length (records_line n) ≤ most_records_line
records_line_le n = omega (arith, length_records_line n, length_decimal n)

pub head_line_le : (n : ℕ) (w : Word) (p : ℕ) → length (head_line n w p) ≤ most_head
head_line_le n w p = omega (arith, length_head_line n w p, length_decimal n, length_word_text w, length_decimal p)
