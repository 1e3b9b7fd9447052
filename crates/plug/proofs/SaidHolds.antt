-- The sentences of specs/Said.antt hold; the last four by the laws of the blank search and of a display's first line.
-- Assumes nothing.
use mathlib.Core.Path.{◌≡◌, refl, ap, ◌∙◌}
use mathlib.Core.List.{List, [], ◌∷◌, ◌++◌, append-nil}
use Prim.Native.Nat.{ℕ, ◌+◌, ◌-◌, ◌*◌, ◌/◌, ◌%◌, ◌≤◌, ◌<◌}
use native.Mathlib.Omega.{arith}
use Rattle.blank.proofs.BlankLaws.{used_in_some, used_in_none}
use Rattle.words.specs.Words.{part}
use Rattle.lines.specs.Text.{hex_digit, hex_byte, hex_bytes}
use Rattle.plug.specs.Answers.{hex_address, blank_text, display_line, display_text}
use Rattle.plug.specs.Step.{perform}
use Rattle.plug.specs.Said.{cr_lf, Said}
use Rattle.plug.proofs.AnswerLaws.{first_line, none_left}

-- a display of up to 16 bytes
single : (a e : ℕ) (f : List ℕ) → a ≤ e → e < a + 16 → display_text a e f ≡ display_line a e f
single a e f h l =
    let last : e + 1 - 1 ≡ e = omega arith in
    first_line a e (e + 1) f h (omega arith) ∙ rw (none_left (e + 1) e f (omega arith), last) (append-nil (display_line a e f))

-- and of more
several : (a e : ℕ) (f : List ℕ) → a + 16 ≤ e → display_text a e f ≡ display_line a (a + 15) f ++ display_text (a + 16) e f
several a e f h =
    let last : a + 16 - 1 ≡ a + 15 = omega arith in
    first_line a e (a + 16) f (omega arith) (omega arith) ∙ rw last

-- the digits of a byte, and of an address
module _ (h l : ℕ) (p : h < 16) (q : l < 16) where
  high : (16 * h + l) / 16 ≡ h
  high = omega arith

  low : (16 * h + l) % 16 ≡ l
  low = omega arith

  byte_digits : hex_byte (16 * h + l) ≡ hex_digit h ∷ hex_digit l ∷ []
  byte_digits = rw (high, low)

pub address_digits : (a b c d : ℕ) → a < 16 → b < 16 → c < 16 → d < 16
    → hex_address (4096 * a + 256 * b + 16 * c + d) ≡ hex_digit a ∷ hex_digit b ∷ hex_digit c ∷ hex_digit d ∷ []
address_digits a b c d p q r s =
    let high : (4096 * a + 256 * b + 16 * c + d) / 256 ≡ 16 * a + b = omega arith in
    let low : (4096 * a + 256 * b + 16 * c + d) % 256 ≡ 16 * c + d = omega arith in
    ap (λ v. hex_bytes (v ∷ ((4096 * a + 256 * b + 16 * c + d) % 256) ∷ [])) high ∙ ap (λ v. hex_bytes ((16 * a + b) ∷ v ∷ [])) low
    ∙ ap (λ ds. ds ++ hex_bytes ((16 * c + d) ∷ [])) (byte_digits a b p q) ∙ ap (λ ds. hex_digit a ∷ hex_digit b ∷ (ds ++ [])) (byte_digits c d r s)

pub said : Said
unfolding perform
said = record {
  dot = refl;
  x = refl;
  p = refl;
  value = refl;
  first_wrong = refl;
  first_wrong_high = refl;
  value_digits = λ h l p q. ap (λ ds. ds ++ 0x2E ∷ cr_lf) (byte_digits h l p q);
  first_wrong_digits = λ a b c d p q r s. ap (λ ds. ds ++ cr_lf) (address_digits a b c d p q r s);
  line_digits = λ a b c d e f p q r s.
      ap (λ ds. ds ++ 0x3D ∷ hex_bytes (part (4096 * a + 256 * b + 16 * c + d) e f) ++ cr_lf) (address_digits a b c d p q r s);
  line = refl;
  line_high = refl;
  told_answers = λ c t. (refl, refl);
  refused_numbered = λ c n. (refl, refl);
  program = λ a b d. (refl, refl);
  erase_block = λ k b d. (refl, refl);
  erase_chip = λ b d. (refl, refl);
  write = λ s b d. (refl, refl);
  read = λ b x d. (refl, refl);
  start_reset = λ b d. (refl, refl);
  start_at = λ a b d. (refl, refl);
  blank_ok = λ b a e h d. (refl, ap blank_text (used_in_none a.0 e.0 b.flash (λ i l m. h i l (omega arith))));
  blank_fails = λ b a e x h l i f g d. (refl, ap blank_text (used_in_some a.0 e.0 x b.flash h l i f g));
  one_line = λ b a e h l d. (refl, single a.0 e.0 b.flash h l);
  display_answered = λ b a e d. refl;
  more_lines = λ b a e h d. several a.0 e.0 b.flash h;
}
