-- The words, numbers and lines that are printed, character by character. Proved in proofs/PrintedHolds.antt.
use Rattle.std.specs.Prelude.{◌≡◌, List, [], ◌∷◌, ℕ, ◌+◌, ◌≤◌, ◌<◌, length, Ok, Err}
use Rattle.words.specs.Words.{laid}
use Rattle.lines.specs.Text.{ascii, decimal, hex_bytes}
use Rattle.lines.specs.Line.{Done, Stall, Start, Answered, Reset, Refused, word_text, request_line, job_line, refused_line, records_line, head_line}
use Rattle.lines.specs.Room.{put, too_short, too_short_number}

pub record Printed : Type 0 where
  -- a text is the numbers of its characters
  pub characters : ascii " -09AZaz\n" ≡ 0x20 ∷ 0x2D ∷ 0x30 ∷ 0x39 ∷ 0x41 ∷ 0x5A ∷ 0x61 ∷ 0x7A ∷ 0x0A ∷ []
  -- "`done` .. , `stall`, `start` or `refK`"
  pub done : word_text Done ≡ ascii "done"
  pub stall : word_text Stall ≡ ascii "stall"
  pub start : word_text Start ≡ ascii "start"
  pub answered : word_text Answered ≡ ascii "answered"
  pub reset : word_text Reset ≡ ascii "reset"
  pub ref_7 : word_text (Refused 7) ≡ ascii "ref7"
  pub ref_17 : word_text (Refused 17) ≡ ascii "ref17"
  -- "all other numbers are decimal", up to the largest of 64 bits; "capital hex", each digit once
  pub number_0 : decimal 0 ≡ ascii "0"
  pub number_9 : decimal 9 ≡ ascii "9"
  pub number_1030 : decimal 1030 ≡ ascii "1030"
  pub number_64_bits : decimal 18446744073709551615 ≡ ascii "18446744073709551615"
  pub hex : hex_bytes (0x01 ∷ 0x23 ∷ 0x45 ∷ 0x67 ∷ 0x89 ∷ 0xAB ∷ 0xCD ∷ 0xEF ∷ []) ≡ ascii "0123456789ABCDEF"
  -- "number from 1, .. state after it, status (two capital hex digits), pages, reply in capital hex or `-`"
  pub done_line : request_line 3 Done 5 0x00 0 (0x00 ∷ 0x00 ∷ 0x00 ∷ 0x00 ∷ 0x05 ∷ 0x00 ∷ []) ≡ ascii "3 done 5 00 0 000000000500\n"
  pub stall_line : request_line 12 Stall 10 0x0F 0 [] ≡ ascii "12 stall 10 0F 0 -\n"
  pub start_line : request_line 6 Start 0 0x00 0 [] ≡ ascii "6 start 0 00 0 -\n"
  pub ref_line : request_line 8 (Refused 7) 0 0x0A 0 [] ≡ ascii "8 ref7 0 0A 0 -\n"
  pub pages_line : request_line 1 Done 3 0x00 256 [] ≡ ascii "1 done 3 00 256 -\n"
  -- "`job N`", "`refused K at P`"; of a file of records `records N`, and what stands before an answer
  pub job : job_line 4 ≡ ascii "job 4\n"
  pub refused : refused_line 11 305 ≡ ascii "refused 11 at 305\n"
  pub records : records_line 12 ≡ ascii "records 12\n"
  pub head : head_line 10 Answered 2 ≡ ascii "10 answered 2 "
  -- "room too short": 9, and the room stays; otherwise the place after the text, and the room before it and past it stays
  pub room_enough : (at : ℕ) (text room : List ℕ) → at + length text ≤ length room → put at text room ≡ Ok (at + length text)
  pub room_laid : laid 2 (ascii "ab") (1 ∷ 2 ∷ 3 ∷ 4 ∷ 5 ∷ []) ≡ 1 ∷ 2 ∷ 0x61 ∷ 0x62 ∷ 5 ∷ []
  pub room_short : (at : ℕ) (text room : List ℕ) → length room < at + length text → put at text room ≡ Err too_short
  pub room_short_number : too_short_number too_short ≡ 9
  pub room_kept : laid 4 (ascii "ab") (1 ∷ 2 ∷ 3 ∷ 4 ∷ 5 ∷ []) ≡ 1 ∷ 2 ∷ 3 ∷ 4 ∷ 5 ∷ []
