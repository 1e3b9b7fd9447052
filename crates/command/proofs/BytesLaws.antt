-- Data taken apart into its bytes, from its code, which is its first two, and its length.
-- Assumes nothing.
use mathlib.Core.Path.{◌≡◌, ap, ◌∙◌}
use mathlib.Core.List.{List, [], ◌∷◌}
use Prim.Native.Nat.{ℕ, zero, suc, ◌+◌, ◌*◌, ◌≤◌, ◌<◌}
use native.Mathlib.Omega.{arith}
use lib.ListN.{length, drop}
use lib.Seq.{drop-cons, drop-length}
use Rattle.words.specs.Words.{byte_at, high_first}
use Rattle.command.specs.Rows.{Bytes}

-- n bytes of a list from place j on, and what comes after them
unfoldable pub spelled : ℕ → ℕ → List ℕ → List ℕ → List ℕ
spelled zero j d rest = rest
spelled (suc n) j d rest = byte_at d j ∷ spelled n (suc j) d rest

pub spell : (n j : ℕ) (d : List ℕ) → j + n ≤ length d → drop j d ≡ spelled n j d (drop (j + n) d)
unfolding spelled
spell zero j d h = let same : j + 0 ≡ j = omega arith in rw same
spell (suc n) j d h =
    let on : suc j + n ≡ j + suc n = omega arith in
    drop-cons d j 0 (omega arith) ∙ ap (λ x. byte_at d j ∷ x) (spell n (suc j) d (omega arith) ∙ rw on)

module _ (d : List ℕ) (bytes : Bytes d) where
  -- data that begins with two bytes, its code
  pub coded : (h l n : ℕ) (rest : List ℕ) → l < 256 → high_first d 0 ≡ h * 256 + l → d ≡ spelled (suc (suc n)) 0 d rest → d ≡ h ∷ l ∷ spelled n 2 d rest
  unfolding spelled
  coded h l n rest small q e =
      let y = bytes 1 in
      let first : byte_at d 0 ≡ h = omega arith in
      let second : byte_at d 1 ≡ l = omega arith in
      e ∙ rw (first, second)

  -- of n bytes in all
  pub exact : (h l n : ℕ) → l < 256 → high_first d 0 ≡ h * 256 + l → length d ≡ suc (suc n) → d ≡ h ∷ l ∷ spelled n 2 d []
  exact h l n small q size =
      let past : 0 + suc (suc n) ≡ length d = omega arith in
      let none : drop (0 + suc (suc n)) d ≡ [] = rw past (drop-length d) in
      coded h l n [] small q (spell (suc (suc n)) 0 d (omega arith) ∙ ap (spelled (suc (suc n)) 0 d) none)
