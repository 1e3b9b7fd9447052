-- `fates::perform::perform` meets its contract: each arm is a row of the command table.
-- Assumes nothing.
use Rattle.std.specs.Prelude.{Some}
use Rattle.std.proofs.Common.{◌≡◌, ℕ, ◌-◌, List, take, drop, ap, ◌∙◌}
use mathlib.Core.Path.{subst}
use Rattle.memory.proofs.PageCountLaws.{flash_stores_few, block_erase_few, chip_erase_few}
use Rattle.command.specs.declared.command.Command.{Command}
use Rattle.command.specs.declared.reader.Parts.{Parts}
use Rattle.command.specs.Transfer.{transfer_of, transfer_body}
use Rattle.command.specs.Reader.{parts_of}
use Rattle.command.proofs.FormLaws.{form_readable}
use Rattle.rules.specs.Answered.{Acceptable}
use Rattle.rules.proofs.PerformLaws.{program_stores_lem, block_stores_lem, chip_stores_lem, stored, eeprom_programmed}
use Rattle.fates.proofs.BodyLaws.{piece}
use Rattle.fates.proofs.perform.perform.Goals as goal

-- the command is that of its arm
acceptable : {k k' : Command} {d f e : List ℕ} → k ≡ k' → Acceptable k d f e → Acceptable k' d f e
acceptable {d = d} {f = f} {e = e} q p = subst (λ k. Acceptable k d f e) q p

-- the bytes between the parts are the body
between : {k k' : Command} {bytes : List ℕ} (d : List ℕ) (p : Parts) → bytes ≡ take (p.suffix - p.body) (drop p.body d) → k ≡ k' → p ≡ parts_of k d
    → bytes ≡ transfer_body (transfer_of k') d
between {k = k} d p r e q = r ∙ piece (transfer_of k) d p q ∙ ap (λ k. transfer_body (transfer_of k) d) e

pub stores-requires : goal.stores-requires
stores-requires c = rw c.program_flash.ensures.value (flash_stores_few _ _ _ _)

pub stores-requires-in-EraseBlock : goal.stores-requires-in-EraseBlock
stores-requires-in-EraseBlock c = rw c.erase_block.ensures.value (block_erase_few _ _)

pub stores-requires-in-EraseChip : goal.stores-requires-in-EraseChip
stores-requires-in-EraseChip c = rw c.erase_chip-pages.ensures.value (chip_erase_few _)

pub byte_of-requires : goal.byte_of-requires
byte_of-requires c = form_readable _ _ (c.requires.acceptable.formed ∙ ap Some c.in-ReadByte.is)

pub returns-in-ProgramFlash : goal.returns-in-ProgramFlash
returns-in-ProgramFlash c =
    let given = acceptable c.in-ProgramFlash.is c.requires.acceptable in
    let bytes = between _ _ c.body-bytes.ensures c.in-ProgramFlash.is c.requires.parts_value in
    rw c.in-ProgramFlash.is
    (stored _ _ _ _ _ _ _ _ _ _ (program_stores_lem _ _ _ _ _ _ _ given bytes) c.program_flash.ensures.value c.program_flash.ensures.flash_after
    c.stores.ensures)

pub returns-in-ProgramEeprom : goal.returns-in-ProgramEeprom
returns-in-ProgramEeprom c =
    let given = acceptable c.in-ProgramEeprom.is c.requires.acceptable in
    let bytes = between _ _ c.body-bytes-in-ProgramEeprom.ensures c.in-ProgramEeprom.is c.requires.parts_value in
    rw c.in-ProgramEeprom.is (eeprom_programmed _ _ _ _ _ _ _ _ _ given bytes c.program_eeprom.ensures.eeprom_after c.leaves.ensures)

pub returns-in-EraseBlock : goal.returns-in-EraseBlock
returns-in-EraseBlock c =
    rw c.in-EraseBlock.is
    (stored _ _ _ _ _ _ _ _ _ _ (block_stores_lem _ _ _ _ _ c.requires.acceptable.sizes.flash_size_lem) c.erase_block.ensures.value
    c.erase_block.ensures.flash_after c.stores-in-EraseBlock.ensures)

pub returns-in-EraseChip : goal.returns-in-EraseChip
returns-in-EraseChip c =
    rw c.in-EraseChip.is
    (stored _ _ _ _ _ _ _ _ _ _
    (chip_stores_lem _ _ _ _ _ c.config_after_erase.ensures c.requires.acceptable.sizes.flash_size_lem)
    c.erase_chip-pages.ensures.value c.erase_chip-pages.ensures.flash_after c.stores-in-EraseChip.ensures)
