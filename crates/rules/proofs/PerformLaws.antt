-- What the board's operations do to memories of their sizes is what `perform` says.
-- Assumes nothing.
use Rattle.std.specs.Prelude.{Option, None, Some}
use mathlib.Core.Path.{◌≡◌, refl, sym, ap, ◌∙◌}
use mathlib.Core.Bool.{false}
use mathlib.Core.List.{List, []}
use Prim.Native.Nat.{ℕ}
use native.Mathlib.Omega.{arith}
use lib.ListN.{length}
use borrow.Author.Tests.{eq-eqb}
use Rattle.words.specs.Words.{count}
use Rattle.memory.specs.Memory.{flash_size, eeprom_size, memory_size}
use Rattle.memory.specs.Read.{selected}
use Rattle.memory.specs.Pages.{Store, store_all, block_stores, chip_stores}
use Rattle.memory.specs.Program.{flash_stores, eeprom_after, Programmable}
use Rattle.memory.specs.Erase.{block_erase, chip_erase}
use Rattle.memory.specs.declared.address.FlashAddress.{FlashAddress}
use Rattle.memory.specs.declared.address.EepromAddress.{EepromAddress}
use Rattle.memory.specs.declared.address.Block.{Block}
use Rattle.memory.specs.declared.address.Range.{Range}
use Rattle.memory.specs.declared.address.Range.TheVariants.{Flash, Eeprom}
use Rattle.memory.proofs.ProgramLaws.{memory_after_fit, flash_stores_fit}
use Rattle.config.specs.Config.{erased_config}
use Rattle.config.specs.declared.config.Config.{Config}
use Rattle.command.specs.Address.{bad_ends}
use Rattle.command.specs.Transfer.{laid, padding, body_of, wrong_transfer}
use Rattle.command.specs.declared.command.Command.{Command}
use Rattle.command.specs.declared.command.Command.TheVariants.{ProgramFlash, ProgramEeprom, EraseBlock, EraseChip}
use Rattle.command.proofs.AddressLaws.{bad_ends_good}
use Rattle.command.proofs.TransferLaws.{length_body_of}
use Rattle.rules.specs.Session.{idle, Nothing}
use Rattle.rules.specs.Result.{Answer, Board, board}
use Rattle.rules.specs.Commands.{stores, blank_effect, perform, accept}
use Rattle.rules.specs.Answered.{Answered, Sizes, Acceptable, accepted_answer}

-- a blank check stores nothing
pub blank_stored : (c : Config) (o : Option ℕ) → (blank_effect c o).stored ≡ []
blank_stored c None = refl
blank_stored c (Some x) = refl

pub blank_patched : (c : Config) (o : Option ℕ) → (blank_effect c o).patched ≡ []
blank_patched c None = refl
blank_patched c (Some x) = refl

-- the erases of a flash of its size
block_erase_sized : (k : Block) (f : List ℕ) → length f ≡ flash_size → block_erase k f ≡ block_stores k f
unfolding block_erase
block_erase_sized k f h = rw (eq-eqb (length f) flash_size h)

chip_erase_sized : (f : List ℕ) → length f ≡ flash_size → chip_erase f ≡ chip_stores
unfolding chip_erase
chip_erase_sized f h = rw (eq-eqb (length f) flash_size h)

-- the memory that a range selects has its size
pub selected_sized : (r : Range) (f m : List ℕ) → Sizes f m → length (selected r f m) ≡ memory_size r
selected_sized (Flash a e) f m s = s.flash_size_lem
selected_sized (Eeprom a e) f m s = s.eeprom_size_lem

-- a transfer whose addresses and length are right can be programmed, into a memory of any size
pub transfer_fit : (size a e : ℕ) (d m : List ℕ) → length m ≡ size → bad_ends size a e ≡ false
    → wrong_transfer (Some (laid (padding a) (count a e))) (length d) ≡ false
    → Programmable size a e (body_of a e d) m
transfer_fit size a e d m h u w =
    let g = bad_ends_good size a e u in
    record { right_size = h; forward = g.forward; inside = g.inside; right_count = omega (arith, g, length_body_of a e d w) }

module _ (c : Config) (d f e : List ℕ) where
  abbrev b : Board
  b = board idle c f e

  -- what each command that stores pages does, by the stores that its operation makes
  pub program_stores_lem : (x y : FlashAddress) (body : List ℕ) → Acceptable (ProgramFlash x y) d f e → body ≡ body_of x.0 y.0 d
      → perform b (ProgramFlash x y) d ≡ stores c (flash_stores x y body f)
  unfolding perform
  program_stores_lem x y body p q =
      let fit = transfer_fit flash_size x.0 y.0 d f p.sizes.flash_size_lem p.address_right p.length_right in
      rw q (ap (stores c) (sym (flash_stores_fit x y (body_of x.0 y.0 d) f fit)))

  pub block_stores_lem : (k : Block) → length f ≡ flash_size → perform b (EraseBlock k) d ≡ stores c (block_erase k f)
  unfolding perform
  block_stores_lem k h = ap (stores c) (sym (block_erase_sized k f h))

  pub chip_stores_lem : (c' : Config) → c' ≡ erased_config c → length f ≡ flash_size → perform b EraseChip d ≡ stores c' (chip_erase f)
  unfolding perform
  chip_stores_lem c' q h = rw q (ap (stores (erased_config c)) (sym (chip_erase_sized f h)))

  -- a command that stores pages, done: the stores were made and counted
  pub stored : (k : Command) (c' : Config) (ss : List Store) (f' : List ℕ) (n : ℕ) (a : Answer) → perform b k d ≡ stores c' ss
      → n ≡ length ss → f' ≡ store_all ss f → a ≡ accepted_answer c' 0x00 Nothing n → Answered b (accept k (perform b k d)) a f' e
  stored k c' ss f' n a p q r t = rw p (record { answered = t ∙ ap (accepted_answer c' 0x00 Nothing) q; flash = r; eeprom = refl })

  -- a transfer to EEPROM, done
  pub eeprom_programmed : (x y : EepromAddress) (body e' : List ℕ) (a : Answer) → Acceptable (ProgramEeprom x y) d f e
      → body ≡ body_of x.0 y.0 d → e' ≡ eeprom_after x y body e → a ≡ accepted_answer c 0x00 Nothing 0
      → Answered b (accept (ProgramEeprom x y) (perform b (ProgramEeprom x y) d)) a f e'
  unfolding perform
  eeprom_programmed x y body e' a p q r t =
      let fit = transfer_fit eeprom_size x.0 y.0 d e p.sizes.eeprom_size_lem p.address_right p.length_right in
      record { answered = t; flash = refl; eeprom = (rw q at r) ∙ memory_after_fit eeprom_size x.0 y.0 (body_of x.0 y.0 d) e fit }
