-- Laws of the requests of a list of fields, by its first field, and of how many they are.
-- Assumes nothing.
use mathlib.Core.Path.{◌≡◌, refl}
use mathlib.Core.Bool.{true, false}
use mathlib.Core.List.{List, [], ◌++◌}
use Prim.Native.Nat.{ℕ, zero, suc, ◌+◌}
use native.Mathlib.Omega.{arith}
use lib.ListN.{length-append}
use Rattle.job.specs.Field.{tag_at, length_at, value_at, end_at, request_tag, group_tag, beyond}
use Rattle.job.specs.Requests.{held, requests_in, RequestsHeld}
use Rattle.job.specs.Read.{Holds, Counts}
use Rattle.job.proofs.FieldLaws.{by_request, by_group, by_other, end_beyond, Inside}

pub none_beyond : (n : ℕ) (file : List ℕ) (at end : ℕ) → beyond file at end ≡ true → requests_in n file at end ≡ []
unfolding requests_in
none_beyond zero file at end b = refl
none_beyond (suc n) file at end b = simp b

pub first_held : (n : ℕ) (file : List ℕ) (at end : ℕ) → beyond file at end ≡ false
    → requests_in (suc n) file at end ≡ held (requests_in n file (value_at at) (end_at file at)) file at ++ requests_in n file (end_at file at) end
unfolding requests_in
first_held n file at end b = simp b

pub count_beyond : (file : List ℕ) (at end : ℕ) → beyond file at end ≡ true → Counts 0 file at end
count_beyond file at end b n m = rw (none_beyond n file at end b)

-- ---- what one field holds

module _ (file : List ℕ) (at : ℕ) where
  pub holds_request : tag_at file at ≡ request_tag → Holds 1 file at
  holds_request t n m = rw (by_request _ _ _ _ t)

  -- the code has the length of the field in a local
  pub holds_group : (q size : ℕ) → size ≡ length_at file at → tag_at file at ≡ group_tag → Counts q file (value_at at) (value_at at + size) → Holds q file at
  holds_group q size sized t inside n m = rw (by_group _ _ _ _ t, ← sized) (inside n (omega arith))

  pub holds_other : (tag_at file at ≡ request_tag → ⊥) → (tag_at file at ≡ group_tag → ⊥) → Holds 0 file at
  holds_other p q n m = rw (by_other _ _ _ _ p q)

-- ---- a field and the rest

module _ (file : List ℕ) (at end size : ℕ) (i : Inside file at end size) (q : ℕ) (holds : Holds q file at) where
  pub count_field : (r : ℕ) → Counts r file (value_at at + size) end → Counts (q + r) file at end
  count_field r rest zero m = absurd (omega (arith, i.value_fits))
  count_field r rest (suc n) m =
      let h = holds n (omega (arith, i.value_fits, i.sized)) in
      let k = rest n (omega arith) in
      rw (first_held n file at end i.not_beyond, length-append, ← h, ← i.sized, ← k)

  -- nothing stands behind the last field of what encloses it
  pub count_last : value_at at + size ≡ end → Counts q file at end
  count_last last n m =
      let none = count_beyond file end end (end_beyond file end end (omega arith)) in
      let c = count_field 0 (rw last none) n m in
      omega (arith, c)

pub requests_held : RequestsHeld
requests_held = record {
  request = λ inside file at q. rw q;
  group = λ inside file at q. rw q;
  note = λ inside file at q. rw q;
  counted = λ file. refl;
  setup = λ file start size. refl;
  rest = λ file start size. refl;
}
