-- One permitted answer: two answers, with the lent memories after them, that meet the contract of a public function are equal.
-- `F.Post` is the contract of F as its code states it.
-- Assumes nothing.
use mathlib.Core.Path.{◌≡◌}
use Rattle.words.proofs.OneAnswer.{one}
use Rattle.memory.proofs.page.store_page.Reads as store_page
use Rattle.memory.proofs.programming.program_flash.Reads as program_flash
use Rattle.memory.proofs.programming.program_eeprom.Reads as program_eeprom
use Rattle.memory.proofs.programming.store_bytes.Reads as store_bytes
use Rattle.memory.proofs.erase.erase_block.Reads as erase_block
use Rattle.memory.proofs.erase.erase_chip.Reads as erase_chip
use Rattle.memory.proofs.erase.erase_from.Reads as erase_from
use Rattle.memory.proofs.reading.read_flash.Reads as read_flash
use Rattle.memory.proofs.reading.read_eeprom.Reads as read_eeprom

pub of_store_page : (κs : _) (a : _) (r r' : _) (s s' : _) → store_page.Post κs a r s → store_page.Post κs a r' s'
    → (r ≡ r') × (s.0.now ≡ s'.0.now)
of_store_page κs a r r' s s' p q = (one p.0 q.0, one p.1 q.1)

pub of_program_flash : (κs : _) (a : _) (r r' : _) (s s' : _) → program_flash.Post κs a r s → program_flash.Post κs a r' s'
    → (r ≡ r') × (s.1.1.1.0.now ≡ s'.1.1.1.0.now)
of_program_flash κs a r r' s s' p q = (one p.0 q.0, one p.1 q.1)

pub of_program_eeprom : (κs : _) (a : _) (r r' : _) (s s' : _) → program_eeprom.Post κs a r s → program_eeprom.Post κs a r' s'
    → (r ≡ r') × (s.1.1.1.0.now ≡ s'.1.1.1.0.now)
of_program_eeprom κs a r r' s s' p q = (one p.0 q.0, one p.1 q.1)

pub of_store_bytes : (κs : _) (a : _) (r r' : _) (s s' : _) → store_bytes.Post κs a r s → store_bytes.Post κs a r' s'
    → (r ≡ r') × (s.0.now ≡ s'.0.now)
of_store_bytes κs a r r' s s' p q = (one p.0 q.0, one p.1 q.1)

pub of_erase_block : (κs : _) (a : _) (r r' : _) (s s' : _) → erase_block.Post κs a r s → erase_block.Post κs a r' s'
    → (r ≡ r') × (s.0.now ≡ s'.0.now)
of_erase_block κs a r r' s s' p q = (one p.0 q.0, one p.1 q.1)

pub of_erase_chip : (κs : _) (a : _) (r r' : _) (s s' : _) → erase_chip.Post κs a r s → erase_chip.Post κs a r' s'
    → (r ≡ r') × (s.0.now ≡ s'.0.now)
of_erase_chip κs a r r' s s' p q = (one p.0 q.0, one p.1 q.1)

pub of_erase_from : (κs : _) (a : _) (r r' : _) (s s' : _) → erase_from.Post κs a r s → erase_from.Post κs a r' s'
    → (r ≡ r') × (s.0.now ≡ s'.0.now)
of_erase_from κs a r r' s s' p q = (one p.0 q.0, one p.1 q.1)

pub of_read_flash : (κs : _) (a : _) (r r' : _) (s s' : _) → read_flash.Post κs a r s → read_flash.Post κs a r' s'
    → (r ≡ r') × (s.1.1.1.0.now ≡ s'.1.1.1.0.now)
of_read_flash κs a r r' s s' p q = (one p.0 q.0, one p.1 q.1)

pub of_read_eeprom : (κs : _) (a : _) (r r' : _) (s s' : _) → read_eeprom.Post κs a r s → read_eeprom.Post κs a r' s'
    → (r ≡ r') × (s.1.1.1.0.now ≡ s'.1.1.1.0.now)
of_read_eeprom κs a r r' s s' p q = (one p.0 q.0, one p.1 q.1)
