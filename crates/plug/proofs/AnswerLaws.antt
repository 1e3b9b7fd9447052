-- Laws of an address, and of a display: how long its lines are, and its first line by itself.
-- Assumes nothing.
use Rattle.std.specs.Int.{to_be_bytes}
use Rattle.std.proofs.Common.{w16, ◌/◌, ◌%◌}
use mathlib.Core.Path.{◌≡◌, refl, ap, ◌∙◌}
use mathlib.Core.List.{List, [], ◌∷◌, ◌++◌}
use Prim.Native.Nat.{ℕ, zero, suc, ◌+◌, ◌-◌, ◌*◌, ◌≤◌, ◌<◌, min}
use native.Mathlib.Nat.{zero-lt-suc}
use native.Mathlib.Omega.{arith}
use lib.ListN.{length, drop, length-append, length-drop}
use lib.Seq.{length-take-le}
use Rattle.words.specs.Words.{count, part}
use Rattle.lines.specs.Text.{hex_bytes}
use Rattle.lines.proofs.TextLaws.{length_hex_bytes}
use Rattle.plug.specs.Answers.{hex_address, display_line, display_lines, line_count, display_text}

-- the digits of the bytes that an address is taken apart into
pub address_bytes : (a : ℕ) (bytes : List ℕ) → a < 65536 → bytes ≡ to_be_bytes w16 a → hex_bytes bytes ≡ hex_address a
address_bytes a bytes h e = let high : a / 256 % 256 ≡ a / 256 = omega arith in rw e (ap (λ x. hex_bytes (x ∷ a % 256 ∷ [])) high)

length_part : (a e : ℕ) (f : List ℕ) → e < length f → length (part a e f) ≡ count a e
length_part a e f h = length-take-le (count a e) (drop a f) (simp length-drop (omega arith))

-- four digits, `=`, CR and LF, and two for each byte
pub length_line : (a e : ℕ) (f : List ℕ) → e < length f → length (display_line a e f) ≡ 7 + 2 * count a e
length_line a e f h =
    let bytes : length (hex_bytes (part a e f)) ≡ 2 * count a e = length_hex_bytes (part a e f) ∙ ap (λ n. 2 * n) (length_part a e f h) in
    simp (length-append, bytes) (omega arith)

-- how long a display is, said of its lines
length_lines : (n a e : ℕ) (f : List ℕ) → n ≡ line_count a e → e < length f → length (display_lines n a e f) ≡ 7 * n + 2 * count a e
length_lines zero a e f q h = omega arith
length_lines (suc n) a e f q h =
    let last = min (a + 15) e in
    let line : length (display_line a last f) ≡ 7 + 2 * count a last = length_line a last f (omega arith) in
    let rest : length (display_lines n (a + 16) e f) ≡ 7 * n + 2 * count (a + 16) e = length_lines n (a + 16) e f (omega arith) h in
    length-append (display_line a last f) (display_lines n (a + 16) e f) ∙ omega arith

pub length_display : (a e : ℕ) (f : List ℕ) → e < length f → length (display_text a e f) ≡ 7 * line_count a e + 2 * count a e
unfolding display_text
length_display a e f h = length_lines (line_count a e) a e f refl h

-- where there are more lines, they begin at one address
from_there : (n a to e : ℕ) (f : List ℕ) → (0 < n → a ≡ to) → display_lines n a e f ≡ display_lines n to e f
from_there zero a to e f q = refl
from_there (suc n) a to e f q = ap (λ x. display_lines (suc n) x e f) (q (zero-lt-suc n))

-- the first line by itself: it ends sixteen bytes on, or with the range
pub first_line : (a e to : ℕ) (f : List ℕ) → a ≤ e → to ≡ min (a + 16) (e + 1) → display_text a e f ≡ display_line a (to - 1) f ++ display_text to e f
unfolding display_text
first_line a e to f h q =
    let more : line_count a e ≡ suc (line_count to e) = omega arith in
    let last : min (a + 15) e ≡ to - 1 = omega arith in
    rw (more, last) (ap (λ rest. display_line a (to - 1) f ++ rest) (from_there (line_count to e) (a + 16) to e f (λ some. omega arith)))

-- past the range there is no line
pub none_left : (a e : ℕ) (f : List ℕ) → e < a → display_text a e f ≡ []
unfolding display_text
none_left a e f h =
    let none : line_count a e ≡ 0 = omega arith in
    rw none
