-- The table of commands holds: each row is computed, and data that has a form is taken apart into its bytes.
-- Assumes nothing.
use mathlib.Core.Path.{◌≡◌, refl, sym, subst}
use mathlib.Core.Bool.{Bool, true, false, ◌||◌, false≢true}
use mathlib.Core.List.{List, [], ◌∷◌}
use Prim.Native.Nat.{ℕ, suc, ◌*◌, ◌+◌, ◌≤◌, ◌<◌}
use native.Mathlib.Omega.{arith}
use lib.Dec.{eqb, lit<}
use lib.ListN.{length, drop}
use borrow.Author.Tests.{le-leb, leb-true, eqb-true}
use Rattle.words.specs.Words.{among, byte_at, high_first}
use Rattle.memory.specs.declared.address.Block.TheVariants.{Low, Middle, High}
use Rattle.config.specs.Config.{writable, fixed_indexes}
use Rattle.command.specs.Form.{form, Command, ReadByte}
use Rattle.command.specs.Rows as R
use Rattle.command.specs.Rows.{Bytes, Row, RowsRead, OnlyRows}
use Rattle.command.proofs.BytesLaws.{spelled, spell, coded, exact}
use Rattle.command.proofs.FormLaws as F
use Rattle.command.proofs.FormLaws.{Formed, formed}

pub rows_read : RowsRead
unfolding form
rows_read _ _ (R.program_flash_lem a b c d rest) = rw (le-leb 6 (length (0x01 ∷ 0x00 ∷ a ∷ b ∷ c ∷ d ∷ rest)) (omega arith))
rows_read _ _ (R.program_eeprom_lem a b c d rest) = rw (le-leb 6 (length (0x01 ∷ 0x01 ∷ a ∷ b ∷ c ∷ d ∷ rest)) (omega arith))
rows_read _ _ (R.read_flash a b c d) = refl
rows_read _ _ (R.read_eeprom a b c d) = refl
rows_read _ _ (R.blank_check a b c d) = refl
rows_read _ _ R.erase_low = refl
rows_read _ _ R.erase_middle = refl
rows_read _ _ R.erase_high = refl
rows_read _ _ R.erase_chip = refl
rows_read _ _ (R.write_byte i v h) = rw (le-leb i 0x06 h)
rows_read _ _ (R.write_hsb v) = refl
rows_read _ _ R.start_reset = refl
rows_read _ _ (R.start_at a b) = refl
rows_read _ _ R.read_version = refl
rows_read _ _ (R.read_byte i h) = rw (le-leb i 0x06 h)
rows_read _ _ R.read_manufacturer = refl
rows_read _ _ R.read_family = refl
rows_read _ _ R.read_product = refl
rows_read _ _ R.read_revision = refl
rows_read _ _ R.read_hsb_lem = refl

-- ---- back from the form to the bytes

-- what holds of each of some numbers holds of the one that is among them
abbrev Each : (ℕ → Type 0) → List ℕ → Type 0
Each P [] = Unit {0}
Each P (m ∷ ms) = P m × Each P ms

of_these : (P : ℕ → Type 0) (i : ℕ) (ms : List ℕ) → Each P ms → among i ms ≡ true → P i
of_these P i [] each q = absurd (false≢true q)
of_these P i (m ∷ ms) each q = go (eqb i m) refl q (of_these P i ms each.1)
  where
    go : (t : Bool) → eqb i m ≡ t → (t || among i ms) ≡ true → (among i ms ≡ true → P i) → P i
    go true e q rest = subst P (sym (eqb-true i m e)) each.0
    go false e q rest = rest q

readable_row : (i : ℕ) (t : Bool) → writable i ≡ t → (t || among i fixed_indexes) ≡ true → Row (0x05 ∷ 0x01 ∷ i ∷ []) (ReadByte i)
readable_row i true t q = R.read_byte i (leb-true i 0x06 t)
readable_row i false t q =
    of_these (λ j. Row (0x05 ∷ 0x01 ∷ j ∷ []) (ReadByte j)) i fixed_indexes
    (R.read_manufacturer, (R.read_family, (R.read_product, (R.read_revision, tt)))) q

module _ (d : List ℕ) (bytes : Bytes d) where
  abbrev at : ℕ → ℕ
  at i = byte_at d i

  -- a program transfer
  six : (l : ℕ) (k : Command) → Row (0x01 ∷ l ∷ at 2 ∷ at 3 ∷ at 4 ∷ at 5 ∷ drop 6 d) k → l < 256 → high_first d 0 ≡ 0x01 * 256 + l → 6 ≤ length d → Row d k
  unfolding spelled
  six l k r small q h = subst (λ x. Row x k) (sym (coded d bytes 0x01 l 4 (drop 6 d) small q (spell 6 0 d h))) r

  -- a row of n bytes after its code
  row_of : (h l n : ℕ) (k : Command) → Row (h ∷ l ∷ spelled n 2 d []) k → l < 256 → high_first d 0 ≡ h * 256 + l → length d ≡ suc (suc n) → Row d k
  row_of h l n k r small q size = subst (λ x. Row x k) (sym (exact d bytes h l n small q size)) r

  -- one whose third byte is told, with n bytes after that
  third : (h l v n : ℕ) (k : Command) → Row (h ∷ l ∷ v ∷ spelled n 3 d []) k → l < 256 → high_first d 0 ≡ h * 256 + l → byte_at d 2 ≡ v
      → length d ≡ suc (suc (suc n)) → Row d k
  unfolding spelled
  third h l v n k r small q t size = row_of h l (suc n) k (rw t r) small q size

  row : (k : Command) → Formed d k → Row d k
  unfolding spelled
  row _ (F.program_flash_lem q l) = six 0x00 _ (R.program_flash_lem (at 2) (at 3) (at 4) (at 5) (drop 6 d)) (lit< tt) q l
  row _ (F.program_eeprom_lem q l) = six 0x01 _ (R.program_eeprom_lem (at 2) (at 3) (at 4) (at 5) (drop 6 d)) (lit< tt) q l
  row _ (F.read_flash q l) = row_of 0x03 0x00 4 _ (R.read_flash (at 2) (at 3) (at 4) (at 5)) (lit< tt) q l
  row _ (F.read_eeprom q l) = row_of 0x03 0x02 4 _ (R.read_eeprom (at 2) (at 3) (at 4) (at 5)) (lit< tt) q l
  row _ (F.blank_check q l) = row_of 0x03 0x01 4 _ (R.blank_check (at 2) (at 3) (at 4) (at 5)) (lit< tt) q l
  row _ (F.erase_block Low q t l) = third 0x04 0x00 0x00 0 _ R.erase_low (lit< tt) q t l
  row _ (F.erase_block Middle q t l) = third 0x04 0x00 0x20 0 _ R.erase_middle (lit< tt) q t l
  row _ (F.erase_block High q t l) = third 0x04 0x00 0x40 0 _ R.erase_high (lit< tt) q t l
  row _ (F.erase_chip q t l) = third 0x04 0x00 0xFF 0 _ R.erase_chip (lit< tt) q t l
  row _ (F.write_byte q t l) = row_of 0x04 0x01 2 _ (R.write_byte (at 2) (at 3) (leb-true (at 2) 0x06 t)) (lit< tt) q l
  row _ (F.write_hsb q t l) = third 0x04 0x02 0x00 1 _ (R.write_hsb (at 3)) (lit< tt) q t l
  row _ (F.start_reset q t l) = third 0x04 0x03 0x00 0 _ R.start_reset (lit< tt) q t l
  row _ (F.start_at q t l) = third 0x04 0x03 0x01 2 _ (R.start_at (at 3) (at 4)) (lit< tt) q t l
  row _ (F.read_version q t l) = third 0x05 0x00 0x00 0 _ R.read_version (lit< tt) q t l
  row _ (F.read_byte q t l) = row_of 0x05 0x01 1 _ (readable_row (at 2) (writable (at 2)) refl t) (lit< tt) q l
  row _ (F.read_hsb_lem q t l) = third 0x05 0x02 0x00 0 _ R.read_hsb_lem (lit< tt) q t l

pub only_rows : OnlyRows
only_rows d k bytes q = row d bytes k (formed d k q)
