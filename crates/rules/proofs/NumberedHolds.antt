-- A setup that is taken for a request has the request's numbers: each row of the list says which.
-- Assumes nothing.
use Rattle.std.specs.Prelude.{if◌then◌else◌}
use mathlib.Core.Path.{◌≡◌, refl}
use mathlib.Core.Bool.{Bool, true, false, ◌&&◌, and-eq-true_iff}
use mathlib.Core.List.{List, [], ◌∷◌}
use Prim.Native.Nat.{ℕ, ◌+◌, ◌*◌, ◌<◌}
use native.Mathlib.Omega.{arith}
use lib.Dec.{eqb, lit<}
use borrow.Author.Tests.{eqb-true}
use Rattle.words.specs.Words.{byte_at, high_first}
use Rattle.rules.specs.Requests.{Request, Dnload, Upload, GetStatus, GetState, ClrStatus, Abort, Other}
use Rattle.rules.specs.Requests.{w_value, w_index, w_length, plainly, request_row, request_of}
use Rattle.rules.specs.Numbered.{request_numbers, request_length, Asks, RequestsNumbered}

-- what an answer says
Says : List ℕ → Request → Type 0
Says setup q = (q ≡ Other → ⊥) → Asks setup q

other : (setup : List ℕ) → Says setup Other
unfolding Says
other setup n = absurd (n refl)

module _ (setup : List ℕ) (byte : byte_at setup 1 < 256) (here : w_index setup ≡ 0) where
  pick : (t : Bool) (x y : Request) → (t ≡ true → Says setup x) → Says setup y → Says setup (if t then x else y)
  pick true x y f g = f refl
  pick false x y f g = g

  -- a row, if its two numbers are the setup's, and the rows after it
  row_or : (h l : ℕ) → l < 256 → (x y : Request) → (byte_at setup 0 ∷ byte_at setup 1 ∷ [] ≡ h ∷ l ∷ [] → Says setup x) → Says setup y
      → Says setup (if eqb (high_first setup 0) (h * 256 + l) then x else y)
  row_or h l b x y f g =
      pick (eqb (high_first setup 0) (h * 256 + l)) x y
      (λ q.
      let e = eqb-true (high_first setup 0) (h * 256 + l) q in
      let first : byte_at setup 0 ≡ h = omega arith in
      let second : byte_at setup 1 ≡ l = omega arith in
      f (rw (first, second)))
      g

  sized : (q : Request) → byte_at setup 0 ∷ byte_at setup 1 ∷ [] ≡ request_numbers q → w_length setup ≡ request_length q → Says setup q
  unfolding Says
  sized q r l n = record { numbers = r; index = here; length = l }

  plain : (q : Request) → byte_at setup 0 ∷ byte_at setup 1 ∷ [] ≡ request_numbers q → Says setup (plainly (request_length q) q setup)
  plain q r =
      let value = eqb (w_value setup) 0 in
      let right = eqb (w_length setup) (request_length q) in
      pick (value && right) q Other (λ t. sized q r (eqb-true (w_length setup) (request_length q) ((and-eq-true_iff value right).0 t).1)) (other setup)

  row_said : Says setup (request_row (high_first setup 0) setup)
  row_said =
      row_or 0x21 1 (lit< tt) (Dnload (w_length setup)) _ (λ q. sized (Dnload (w_length setup)) q refl) (
      row_or 0xA1 2 (lit< tt) (Upload (w_length setup)) _ (λ q. sized (Upload (w_length setup)) q refl) (
      row_or 0xA1 3 (lit< tt) _ _ (plain GetStatus) (
      row_or 0xA1 5 (lit< tt) _ _ (plain GetState) (
      row_or 0x21 4 (lit< tt) _ _ (plain ClrStatus) (
      row_or 0x21 6 (lit< tt) _ _ (plain Abort) (other setup))))))

pub requests_numbered : RequestsNumbered
unfolding request_of Says
requests_numbered setup bytes = by (eqb (w_index setup) 0) refl
  where
    by : (t : Bool) → eqb (w_index setup) 0 ≡ t → Says setup (if t then request_row (high_first setup 0) setup else Other)
    by true q = row_said setup (bytes 1) (eqb-true (w_index setup) 0 q)
    by false q = other setup
