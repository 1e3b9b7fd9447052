-- The blank check's finding: the first byte of a range that is not FFh. Assumes nothing: these are definitions and a statement.
use Rattle.std.specs.Prelude.{if◌then◌else◌, List, [], ◌∷◌, ◌↔◌, ◌≡◌, ℕ, suc, ◌≤◌, ◌<◌, max, eqb, length, get_or, Option, None, Some}
use Rattle.words.specs.Words.{part}
use Rattle.memory.specs.Memory.{flash_address}
use Rattle.memory.specs.declared.address.FlashAddress.{FlashAddress}

-- the address of the first byte that is not FFh, of bytes that stand from address a on
abbrev pub first_used : ℕ → List ℕ → Option ℕ
first_used a [] = None
first_used a (x ∷ xs) = if eqb x 0xFF then first_used (suc a) xs else Some a

-- "the first such address" from a to e of a flash
unfoldable pub used_in : ℕ → ℕ → List ℕ → Option ℕ
used_in a e f = first_used a (part a e f)

-- the same in numbers, of any range and flash: what lies past the flash's end is not looked at
pub record FirstFound : Type 0 where
  pub found : (a e x : ℕ) (f : List ℕ) → a ≤ x → x ≤ e → x < length f → ((i : ℕ) → a ≤ i → i < x → get_or f i 0 ≡ 0xFF) → (get_or f x 0 ≡ 0xFF → ⊥)
      → used_in a e f ≡ Some x
  pub none_found : (a e : ℕ) (f : List ℕ) → ((i : ℕ) → a ≤ i → i ≤ e → i < length f → get_or f i 0 ≡ 0xFF) → used_in a e f ≡ None

-- the same blank bytes: FFh at the same addresses
abbrev pub SameBlank : List ℕ → List ℕ → Type 0
SameBlank f f' = (i : ℕ) → i < length f → (get_or f i 0 ≡ 0xFF) ↔ (get_or f' i 0 ≡ 0xFF)

-- all bytes from a on and before b are FFh
abbrev pub AllBlank : ℕ → ℕ → List ℕ → Type 0
AllBlank a b f = (i : ℕ) → a ≤ i → i < b → get_or f i 0 ≡ 0xFF

-- a search of the places from a on before `stop` stands at r, and all that it has passed is FFh
pub record Passed (a stop r : ℕ) (f : List ℕ) : Type 0 where
  pub forward : a ≤ r
  pub in_range : r ≤ max a stop
  pub blank : AllBlank a r f

-- of the places from a on before `stop`, x is the first whose byte is not FFh
pub record FoundAt (a stop x : ℕ) (f : List ℕ) : Type 0 where
  pub forward : a ≤ x
  pub in_range : x < stop
  pub blank : AllBlank a x f
  pub used : get_or f x 0 ≡ 0xFF → ⊥

-- the finding as the search answers it
abbrev pub used_of : Option ℕ → Option FlashAddress
used_of None = None
used_of (Some x) = Some (flash_address x)

-- "A blank check that meets a byte not FFh sets 05h", and "An accepted command sets status 00h": the status of each finding
abbrev pub used_status : Option FlashAddress → ℕ
used_status (Some a) = 0x05
used_status None = 0x00

-- the same in numbers, of every finding
pub record FindingsTold : Type 0 where
  pub found : (x : ℕ) → used_of (Some x) ≡ Some (flash_address x)
  pub found_05h : (x : ℕ) → used_status (used_of (Some x)) ≡ 0x05
  pub nothing : used_of None ≡ None
  pub nothing_00h : used_status (used_of None) ≡ 0x00
