-- How many pages the flash's operation stores in each memory, whatever it holds.
-- Assumes nothing.
use mathlib.Core.Path.{◌≡◌, refl, ap, ◌∙◌}
use mathlib.Core.List.{List}
use Prim.Native.Nat.{ℕ}
use lib.Dec.{lit≤, lit<}
use lib.ListN.{length}
use Rattle.memory.specs.Memory.{flash_address, flash_size, eeprom_size}
use Rattle.memory.specs.Program.{flash_stores}
use Rattle.memory.proofs.PagesLaws.{length_program_stores}
use Rattle.memory.proofs.ProgramLaws.{flash_stores_fit, flash_stores_not}
use Rattle.worked.specs.Apart.{heights}

module _ (m : List ℕ) where
  pub pages_of_flash : length m ≡ flash_size → length (flash_stores (flash_address 0x007F) (flash_address 0x0080) heights m) ≡ 2
  pages_of_flash h =
      ap length (flash_stores_fit (flash_address 0x007F) (flash_address 0x0080) heights m
      (record { right_size = h; forward = lit≤ tt; inside = lit< tt; right_count = refl }))
      ∙ length_program_stores 0x007F 0x0080 heights m

  pub pages_of_eeprom : length m ≡ eeprom_size → length (flash_stores (flash_address 0x007F) (flash_address 0x0080) heights m) ≡ 0
  pages_of_eeprom h = ap length (flash_stores_not (flash_address 0x007F) (flash_address 0x0080) heights m (rw h))
