-- What a command does where its range and the size of the flash are not known to be right. Assumes nothing: these
-- are a definition and a statement.
use Rattle.std.specs.Prelude.{◌≡◌, List, ℕ}
use Rattle.memory.specs.declared.address.FlashAddress.{FlashAddress}
use Rattle.plug.specs.declared.command.Command.{Command}
use Rattle.plug.specs.declared.command.Command.TheVariants.{Program, Display, BlankCheck, EraseBlock, EraseChip, Write, Read, StartReset, StartAt}
use Rattle.plug.specs.Step.{Board, Result, perform}
use Rattle.replies.specs.Replies.{displayed}

-- a display says itself what is wrong; the others do on every board what they do
abbrev pub performed : Board → Command → List ℕ → Result
performed b (Program a) d = perform b (Program a) d
performed b (Display a e) d = displayed b.config a.0 e.0 b.flash
performed b (BlankCheck a e) d = perform b (BlankCheck a e) d
performed b (EraseBlock k) d = perform b (EraseBlock k) d
performed b EraseChip d = perform b EraseChip d
performed b (Write s) d = perform b (Write s) d
performed b (Read x) d = perform b (Read x) d
performed b StartReset d = perform b StartReset d
performed b (StartAt a) d = perform b (StartAt a) d

-- the same: every command but a display does what the rules say, and a display what is said of it in crates/replies
pub record PerformedTold : Type 0 where
  pub display : (b : Board) (a e : FlashAddress) (d : List ℕ) → performed b (Display a e) d ≡ displayed b.config a.0 e.0 b.flash
  pub other : (b : Board) (k : Command) (d : List ℕ) → ((a e : FlashAddress) → k ≡ Display a e → ⊥) → performed b k d ≡ perform b k d
