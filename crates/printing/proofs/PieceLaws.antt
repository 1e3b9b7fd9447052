-- The pieces that the lines are put together from.
-- Assumes nothing.
use Rattle.std.specs.Prelude.{◌==◌, Bool, false}
use mir.Val.{bool_byte}
use mathlib.Core.Path.{◌≡◌, refl, ◌∙◌}
use mathlib.Core.List.{List, [], ◌∷◌, ◌++◌, append_assoc}
use Prim.Native.Nat.{ℕ, ◌+◌, ◌*◌}
use native.Mathlib.Omega.{arith}
use lib.ListN.{length}
use borrow.Author.Tests.{ne_eqb}
use Rattle.lines.specs.Text.{ascii, decimal, hex_byte, hex_bytes}
use Rattle.lines.proofs.TextLaws.{length_hex_bytes}
use Rattle.lines.specs.declared.line.Word.{Word}
use Rattle.lines.specs.Line.{word_text, reply_text, space, request_line, refused_line, head_line}

-- each piece with the space after it
pub request_line_pieces : (n : ℕ) (w : Word) (st s p : ℕ) (r : List ℕ) →
    decimal n ++ space ++ (word_text w ++ space) ++ (decimal st ++ space) ++ hex_byte s ++ space ++ (decimal p ++ space) ++ reply_text r
    ++ ascii "\n" ≡ request_line n w st s p r
unfolding request_line
request_line_pieces n w st s p r = simp append_assoc

pub refused_line_pieces : (k p : ℕ) → ascii "refused " ++ (decimal k ++ space) ++ ascii "at " ++ (decimal p ++ ascii "\n") ≡ refused_line k p
unfolding refused_line
refused_line_pieces k p = simp append_assoc

pub head_line_pieces : (n : ℕ) (w : Word) (p : ℕ) → (decimal n ++ space) ++ (word_text w ++ space) ++ (decimal p ++ space) ≡ head_line n w p
unfolding head_line
head_line_pieces n w p = simp append_assoc

-- a reply of some bytes is its digits, and of none one byte
pub reply_text_some : (r : List ℕ) → false ≡ (length r == 0) → reply_text r ≡ hex_bytes r
reply_text_some [] h = cc
reply_text_some (b ∷ bs) h = refl

pub length_reply_text : (r : List ℕ) (none : Bool) (n : ℕ) → none ≡ (length r == 0) → n ≡ bool_byte none
    → n + 2 * length r ≡ length (reply_text r)
length_reply_text [] none n e q = let one : n ≡ 1 = q ∙ rw e refl in omega (arith, one)
length_reply_text (b ∷ bs) none n e q =
    let some : none ≡ false = e ∙ ne_eqb (length (b ∷ bs)) 0 (λ z. omega (arith, z)) in
    let zero : n ≡ 0 = q ∙ rw some refl in
    omega (arith, zero, length_hex_bytes bs)
