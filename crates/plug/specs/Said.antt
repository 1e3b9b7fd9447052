-- 002's "Answers from Bootloader": the characters of each answer, and which answer each command gets that is done. Proved in
-- proofs/SaidHolds.antt.
use Rattle.std.specs.Prelude.{◌≡◌, List, [], ◌∷◌, ◌++◌, ℕ, suc, ◌+◌, ◌*◌, ◌≤◌, ◌<◌, length, get_or, Some}
use Rattle.memory.specs.Memory.{flash_address}
use Rattle.memory.specs.declared.address.FlashAddress.{FlashAddress}
use Rattle.blank.specs.Blank.{AllBlank}
use Rattle.words.specs.Words.{part}
use Rattle.lines.specs.Text.{ascii, hex_digit, hex_bytes}
use Rattle.plug.specs.Config.{Config, byte_value, Setting, Byte}
use Rattle.plug.specs.Levels.{Command, Program, Display, BlankCheck, EraseBlock, EraseChip, Write, Read, StartReset, StartAt}
use Rattle.plug.specs.Commands.{Block}
use Rattle.plug.specs.Answers.{done_text, wrong_checksum_text, security_text, value_text, blank_text, display_line}
use Rattle.plug.specs.Step.{Board, Outcome, Answered, StartedReset, StartedAt, Refused, refused, told, perform}

-- CR and LF
abbrev pub cr_lf : List ℕ
cr_lf = 0x0D ∷ 0x0A ∷ []

-- on every board, whatever the record's data, the command comes out so and says this; in the second, of a board b
abbrev pub Says : Command → Outcome → List ℕ → Type 0
Says k o t = (b : Board) (d : List ℕ) → ((perform b k d).outcome ≡ o) × ((perform b k d).text ≡ t)

abbrev pub SaysOn : Board → Command → List ℕ → Type 0
SaysOn b k t = (d : List ℕ) → ((perform b k d).outcome ≡ Answered) × ((perform b k d).text ≡ t)

pub record Said : Type 0 where
  -- ""." & "CR" & "LF"", ""X" & "CR" & "LF"", ""P" & "CR" & "LF"", ""value" & "." & "CR" & "LF"", ""First Address wrong" "CR" & "LF""
  pub dot : done_text ≡ 0x2E ∷ cr_lf
  pub x : wrong_checksum_text ≡ 0x58 ∷ cr_lf
  pub p : security_text ≡ 0x50 ∷ cr_lf
  pub value : value_text 0x3C ≡ 0x33 ∷ 0x43 ∷ 0x2E ∷ cr_lf
  pub first_wrong : blank_text (Some 0x1A2B) ≡ 0x31 ∷ 0x41 ∷ 0x32 ∷ 0x42 ∷ cr_lf
  pub first_wrong_high : blank_text (Some 0xFEDC) ≡ ascii "FEDC" ++ cr_lf
  pub value_digits : (h l : ℕ) → h < 16 → l < 16 → value_text (16 * h + l) ≡ hex_digit h ∷ hex_digit l ∷ 0x2E ∷ cr_lf
  pub first_wrong_digits : (a b c d : ℕ) → a < 16 → b < 16 → c < 16 → d < 16
      → blank_text (Some (4096 * a + 256 * b + 16 * c + d)) ≡ hex_digit a ∷ hex_digit b ∷ hex_digit c ∷ hex_digit d ∷ cr_lf
  -- ""Address = data " & "CR" & "LF"": of every address and flash, and of the bytes at 0001h and 0002h
  pub line_digits : (a b c d e : ℕ) (f : List ℕ) → a < 16 → b < 16 → c < 16 → d < 16
      → let start = 4096 * a + 256 * b + 16 * c + d in
      display_line start e f ≡ hex_digit a ∷ hex_digit b ∷ hex_digit c ∷ hex_digit d ∷ 0x3D ∷ hex_bytes (part start e f) ++ cr_lf
  pub line : display_line 0x0001 0x0002 (0xFF ∷ 0x12 ∷ 0xAB ∷ 0xFF ∷ []) ≡ ascii "0001=12AB" ++ cr_lf
  pub line_high : display_line 0xFEDC 0xFEDC [] ≡ ascii "FEDC=" ++ cr_lf
  -- `X` and `P` are answers; a refusal has its number and says nothing
  pub told_answers : (c : Config) (t : List ℕ) → ((told c t).outcome ≡ Answered) × ((told c t).text ≡ t)
  pub refused_numbered : (c : Config) (n : ℕ) → ((refused c n).outcome ≡ Refused n) × ((refused c n).text ≡ [])
  -- ""." & "CR" & "LF" when the data are programmed", "when the value is programmed"
  pub program : (a : FlashAddress) → Says (Program a) Answered (0x2E ∷ cr_lf)
  pub erase_block : (k : Block) → Says (EraseBlock k) Answered (0x2E ∷ cr_lf)
  pub erase_chip : Says EraseChip Answered (0x2E ∷ cr_lf)
  pub write : (s : Setting) → Says (Write s) Answered (0x2E ∷ cr_lf)
  pub read : (b : Board) (x : Byte) → SaysOn b (Read x) (value_text (byte_value x b.config))
  -- "No answer is returned by the device."
  pub start_reset : Says StartReset StartedReset []
  pub start_at : (a : FlashAddress) → Says (StartAt a) (StartedAt a) []
  -- ""." & "CR" & "LF" when the blank check is OK", ""First Address wrong" .. when the blank check is fail"
  pub blank_ok : (b : Board) (a e : FlashAddress) → AllBlank a.0 (suc e.0) b.flash → SaysOn b (BlankCheck a e) (0x2E ∷ cr_lf)
  pub blank_fails : (b : Board) (a e : FlashAddress) (x : ℕ) → a.0 ≤ x → x ≤ e.0 → x < length b.flash → AllBlank a.0 x b.flash
      → (get_or b.flash x 0 ≡ 0xFF → ⊥) → SaysOn b (BlankCheck a e) (blank_text (Some x))
  -- "The device splits into blocks of 16 bytes": up to 16 bytes are one line, and more are a line of 16 and the display of the rest
  pub one_line : (b : Board) (a e : FlashAddress) → a.0 ≤ e.0 → e.0 < a.0 + 16 → SaysOn b (Display a e) (display_line a.0 e.0 b.flash)
  pub display_answered : (b : Board) (a e : FlashAddress) (d : List ℕ) → (perform b (Display a e) d).outcome ≡ Answered
  pub more_lines : (b : Board) (a e : FlashAddress) → a.0 + 16 ≤ e.0 → (d : List ℕ)
      → (perform b (Display a e) d).text ≡ display_line a.0 (a.0 + 15) b.flash ++ (perform b (Display (flash_address (a.0 + 16)) e) d).text
