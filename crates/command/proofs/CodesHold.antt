-- Data that is a command begins with the command's code: each row of the table says which.
-- Assumes nothing.
use Rattle.std.specs.Prelude.{Option, None, Some}
use mathlib.Core.Path.{◌≡◌, refl}
use mathlib.Core.List.{List, [], ◌∷◌}
use Prim.Native.Nat.{ℕ, ◌+◌, ◌*◌, ◌<◌}
use native.Mathlib.Omega.{arith}
use lib.Dec.{lit<}
use Rattle.memory.specs.declared.address.Block.TheVariants.{Low, Middle, High}
use Rattle.command.specs.Form.{Command, form}
use Rattle.command.specs.Codes.{row_code, form_code, BeginsWith, FormsNumbered}
use Rattle.command.proofs.FormLaws.{Formed, formed, form_short, program_flash_lem, program_eeprom_lem, read_flash, read_eeprom, blank_check}
use Rattle.command.proofs.FormLaws.{erase_block, erase_chip, write_byte, write_hsb, start_reset, start_at, read_version, read_byte, read_hsb_lem}

-- data of three bytes and more, and what its first two are as one number
module _ (x y z : ℕ) (rest : List ℕ) (byte : y < 256) where
  two : (h l : ℕ) → l < 256 → x * 256 + y ≡ h * 256 + l → x ∷ y ∷ [] ≡ h ∷ l ∷ []
  two h l b q = let first : x ≡ h = omega arith in let second : y ≡ l = omega arith in rw (first, second)

  three : (h l t : ℕ) → l < 256 → x * 256 + y ≡ h * 256 + l → z ≡ t → x ∷ y ∷ z ∷ [] ≡ h ∷ l ∷ t ∷ []
  three h l t b q e = let first : x ≡ h = omega arith in let second : y ≡ l = omega arith in rw (first, second, e)

  coded : (k : Command) → Formed (x ∷ y ∷ z ∷ rest) k → BeginsWith (x ∷ y ∷ z ∷ rest) (row_code k)
  coded k (program_flash_lem q l) = two 0x01 0x00 (lit< tt) q
  coded k (program_eeprom_lem q l) = two 0x01 0x01 (lit< tt) q
  coded k (read_flash q l) = two 0x03 0x00 (lit< tt) q
  coded k (read_eeprom q l) = two 0x03 0x02 (lit< tt) q
  coded k (blank_check q l) = two 0x03 0x01 (lit< tt) q
  coded k (erase_block Low q t l) = three 0x04 0x00 0x00 (lit< tt) q t
  coded k (erase_block Middle q t l) = three 0x04 0x00 0x20 (lit< tt) q t
  coded k (erase_block High q t l) = three 0x04 0x00 0x40 (lit< tt) q t
  coded k (erase_chip q t l) = three 0x04 0x00 0xFF (lit< tt) q t
  coded k (write_byte q t l) = two 0x04 0x01 (lit< tt) q
  coded k (write_hsb q t l) = three 0x04 0x02 0x00 (lit< tt) q t
  coded k (start_reset q t l) = three 0x04 0x03 0x00 (lit< tt) q t
  coded k (start_at q t l) = three 0x04 0x03 0x01 (lit< tt) q t
  coded k (read_version q t l) = three 0x05 0x00 0x00 (lit< tt) q t
  coded k (read_byte q t l) = two 0x05 0x01 (lit< tt) q
  coded k (read_hsb_lem q t l) = three 0x05 0x02 0x00 (lit< tt) q t

  by_form : (o : Option Command) → form (x ∷ y ∷ z ∷ rest) ≡ o → BeginsWith (x ∷ y ∷ z ∷ rest) (form_code o)
  by_form None q = refl
  by_form (Some k) q = coded k (formed (x ∷ y ∷ z ∷ rest) k q)

unlisted : (d : List ℕ) → form d ≡ None → BeginsWith d (form_code (form d))
unlisted d q = rw q

pub forms_numbered : FormsNumbered
forms_numbered [] bytes = unlisted [] (form_short [] (lit< tt))
forms_numbered (x ∷ []) bytes = unlisted (x ∷ []) (form_short (x ∷ []) (lit< tt))
forms_numbered (x ∷ y ∷ []) bytes = unlisted (x ∷ y ∷ []) (form_short (x ∷ y ∷ []) (lit< tt))
forms_numbered (x ∷ y ∷ z ∷ rest) bytes = by_form x y z rest (bytes 1) (form (x ∷ y ∷ z ∷ rest)) refl
