-- 002's "Answers from Bootloader": their characters. Assumes nothing: these are definitions.
use Rattle.std.specs.Prelude.{List, [], ◌∷◌, ◌++◌, ℕ, zero, suc, ◌+◌, ◌/◌, ◌%◌, min, Option, None, Some}
use Rattle.words.specs.Words.{count, part}
use Rattle.lines.specs.Text.{ascii, hex_byte, hex_bytes}

-- ""CR" & "LF""
abbrev pub line_end : List ℕ
line_end = 13 ∷ 10 ∷ []

-- ""." & "CR" & "LF"", ""X" & "CR" & "LF" if the checksum is wrong", ""P" & "CR" & "LF" if the Security is set"
abbrev pub done_text : List ℕ
done_text = ascii "." ++ line_end

abbrev pub wrong_checksum_text : List ℕ
wrong_checksum_text = ascii "X" ++ line_end

abbrev pub security_text : List ℕ
security_text = ascii "P" ++ line_end

-- ""value" & "." & "CR" & "LF""
abbrev pub value_text : ℕ → List ℕ
value_text v = hex_byte v ++ ascii "." ++ line_end

-- four hex digits of an address
abbrev pub hex_address : ℕ → List ℕ
hex_address a = hex_bytes (a / 256 ∷ a % 256 ∷ [])

-- ""." & "CR" & "LF" when the blank check is OK", ""First Address wrong" "CR" & "LF" when the blank check is fail"
abbrev pub blank_text : Option ℕ → List ℕ
blank_text None = done_text
blank_text (Some x) = hex_address x ++ line_end

-- ""Address = data " & "CR" & "LF" up to 16 data by line.": the line of the bytes from a to e
abbrev pub display_line : ℕ → ℕ → List ℕ → List ℕ
display_line a e f = hex_address a ++ ascii "=" ++ hex_bytes (part a e f) ++ line_end

-- "The device splits into blocks of 16 bytes": n lines from address a on, the last of them to e
abbrev pub line_size : ℕ
line_size = 16

abbrev pub display_lines : ℕ → ℕ → ℕ → List ℕ → List ℕ
display_lines zero a e f = []
display_lines (suc n) a e f = display_line a (min (a + 15) e) f ++ display_lines n (a + line_size) e f

-- as many lines as the range needs
abbrev pub line_count : ℕ → ℕ → ℕ
line_count a e = (count a e + 15) / line_size

unfoldable pub display_text : ℕ → ℕ → List ℕ → List ℕ
display_text a e f = display_lines (line_count a e) a e f
