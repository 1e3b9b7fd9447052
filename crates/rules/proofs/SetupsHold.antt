-- The list of requests holds: each setup is computed, and one that is not `Other` is taken apart into its bytes.
-- Assumes nothing.
use Rattle.std.specs.Prelude.{if◌then◌else◌}
use mathlib.Core.Logic.{◌⊎◌, inl, inr}
use mathlib.Core.Path.{◌≡◌, refl, sym, ◌∙◌, subst}
use mathlib.Core.Bool.{Bool, true, false, ◌&&◌}
use mathlib.Core.List.{List, [], ◌∷◌}
use Prim.Native.Nat.{ℕ, ◌*◌, ◌+◌, ◌<◌}
use native.Mathlib.Omega.{arith}
use lib.Dec.{eqb, lit<}
use lib.ListN.{length}
use borrow.Author.Tests.{eqb-true}
use Rattle.words.specs.Words.{byte_at, high_first}
use Rattle.command.specs.Rows.{Bytes}
use Rattle.command.proofs.BytesLaws.{spelled, exact}
use Rattle.rules.specs.Requests.{Request, Dnload, Upload, GetStatus, GetState, ClrStatus, Abort, Other, request_of, plainly, w_value, w_index, w_length}
use Rattle.rules.specs.Setups.{Listed, dnload, upload, get_status_lem, get_state_lem, clr_status_lem, abort, ListedAsked, ElseOther}

pub listed_asked : ListedAsked
unfolding request_of
listed_asked _ _ (dnload v w l h) = refl
listed_asked _ _ (upload v w l h) = refl
listed_asked _ _ get_status_lem = refl
listed_asked _ _ get_state_lem = refl
listed_asked _ _ clr_status_lem = refl
listed_asked _ _ abort = refl

module _ (setup : List ℕ) (size : length setup ≡ 8) (bytes : Bytes setup) where
  Told : Request → Type 0
  Told q = Listed setup q ⊎ (q ≡ Other)

  other : Told Other
  unfolding Told
  other = inr refl

  -- through a test of two numbers
  pick : (n m : ℕ) (p q : Request) → (n ≡ m → Told p) → Told q → Told (if eqb n m then p else q)
  pick n m p q f g = go (eqb n m) refl
    where
      go : (s : Bool) → eqb n m ≡ s → Told (if s then p else q)
      go true e = f (eqb-true n m e)
      go false e = g

  abbrev at : ℕ → ℕ
  at i = byte_at setup i

  module _ (index : w_index setup ≡ 0) where
    -- a setup with this code
    coded : (h l : ℕ) → l < 256 → high_first setup 0 ≡ h * 256 + l → setup ≡ h ∷ l ∷ at 2 ∷ at 3 ∷ 0 ∷ 0 ∷ at 6 ∷ at 7 ∷ []
    unfolding spelled
    coded h l small q =
        let x : at 4 ≡ 0 = omega arith in
        let y : at 5 ≡ 0 = omega arith in
        exact setup bytes h l 6 small q size ∙ rw (x, y)

    -- a row that looks at wLength alone
    by_length : (h l : ℕ) (q : Request) → Listed (h ∷ l ∷ at 2 ∷ at 3 ∷ 0 ∷ 0 ∷ at 6 ∷ at 7 ∷ []) q → l < 256 → high_first setup 0 ≡ h * 256 + l → Told q
    unfolding Told
    by_length h l q row small c = inl (subst (λ s. Listed s q) (sym (coded h l small c)) row)

    -- a row that has its wValue and its wLength
    plain : (h l n : ℕ) (q : Request) → Listed (h ∷ l ∷ 0 ∷ 0 ∷ 0 ∷ 0 ∷ n ∷ 0 ∷ []) q → l < 256 → n < 256 → high_first setup 0 ≡ h * 256 + l
        → Told (plainly n q setup)
    unfolding Told
    plain h l n q row small few c = go (eqb (w_value setup) 0) (eqb (w_length setup) n) refl refl
      where
        go : (s u : Bool) → eqb (w_value setup) 0 ≡ s → eqb (w_length setup) n ≡ u → Told (if s && u then q else Other)
        go true true d e =
            let value = eqb-true (w_value setup) 0 d in
            let size = eqb-true (w_length setup) n e in
            let v : at 2 ≡ 0 = omega arith in
            let w : at 3 ≡ 0 = omega arith in
            let high : at 7 ≡ 0 = omega arith in
            let low : at 6 ≡ n = omega arith in
            inl (subst (λ s. Listed s q) (sym (coded h l small c ∙ rw (v, w, low, high))) row)
        go true false d e = inr refl
        go false u d e = inr refl

    asked : Told (request_of setup)
    unfolding request_of
    asked =
        rw index
        (pick _ 0x2101 _ _ (by_length 0x21 1 (Dnload (w_length setup)) (dnload (at 2) (at 3) (at 6) (at 7)) (lit< tt)) (
        pick _ 0xA102 _ _ (by_length 0xA1 2 (Upload (w_length setup)) (upload (at 2) (at 3) (at 6) (at 7)) (lit< tt)) (
        pick _ 0xA103 _ _ (plain 0xA1 3 6 GetStatus get_status_lem (lit< tt) (lit< tt)) (
        pick _ 0xA105 _ _ (plain 0xA1 5 1 GetState get_state_lem (lit< tt) (lit< tt)) (
        pick _ 0x2104 _ _ (plain 0x21 4 0 ClrStatus clr_status_lem (lit< tt) (lit< tt)) (
        pick _ 0x2106 _ _ (plain 0x21 6 0 Abort abort (lit< tt) (lit< tt)) other))))))

pub else_other : ElseOther
unfolding request_of Told
else_other setup size bytes = go (eqb (w_index setup) 0) refl
  where
    go : (t : Bool) → eqb (w_index setup) 0 ≡ t → Listed setup (request_of setup) ⊎ (request_of setup ≡ Other)
    go true e = asked setup size bytes (eqb-true (w_index setup) 0 e)
    go false e = inr (rw e)
