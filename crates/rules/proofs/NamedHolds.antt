-- The sentences of specs/Named.antt hold; but for what a blank check stores each is computed.
-- Assumes nothing.
use mathlib.Core.Path.{refl}
use mathlib.Core.List.{List}
use Prim.Native.Nat.{ℕ}
use native.Mathlib.Omega.{arith}
use borrow.Author.Tests.{ne_eqb, le-ltb}
use Rattle.blank.specs.Blank.{used_in}
use Rattle.command.specs.declared.command.Command.{Command}
use Rattle.command.specs.declared.command.Command.TheVariants.{ProgramFlash, ProgramEeprom, Read, BlankCheck, EraseBlock, EraseChip, WriteByte, WriteHsb}
use Rattle.command.specs.declared.command.Command.TheVariants.{StartReset, StartAt, ReadVersion, ReadByte, ReadHsb}
use Rattle.rules.specs.Result.{Board}
use Rattle.rules.specs.Commands.{stall, perform, obey}
use Rattle.rules.specs.Requests.{respond, dnload, request_of, most_data, command_states}
use Rattle.rules.specs.Named.{Stores, Named}
use Rattle.rules.proofs.PerformLaws.{blank_stored, blank_patched}
use Rattle.rules.proofs.RefusalOrderHolds.{in_among}
use Rattle.rules.proofs.StatesHold.{answered, stall_told}

stores : (b : Board) (k : Command) (d : List ℕ) → Stores k b d (perform b k d)
unfolding perform
stores b (ProgramFlash a e) d = (refl, refl)
stores b (ProgramEeprom a e) d = (refl, refl)
stores b (Read r) d = (refl, refl)
stores b (BlankCheck a e) d = let u = used_in a.0 e.0 b.flash in (blank_stored b.config u, blank_patched b.config u)
stores b (EraseBlock k) d = (refl, refl)
stores b EraseChip d = (refl, refl)
stores b (WriteByte i v) d = (refl, refl)
stores b (WriteHsb v) d = (refl, refl)
stores b StartReset d = (refl, refl)
stores b (StartAt a) d = (refl, refl)
stores b ReadVersion d = (refl, refl)
stores b (ReadByte i) d = (refl, refl)
stores b ReadHsb d = (refl, refl)

pub named : Named
unfolding stall respond dnload obey
named = record {
  of_session = λ state status busy p. refl;
  of_idle = λ busy. (refl, refl);
  of_board = λ s c f e. refl;
  of_bare = λ s c. refl;
  of_pages = λ r. refl;
  of_patches = λ p ps m. refl;
  no_patch = λ m. refl;
  of_reply = λ c o bs s. refl;
  of_stall = stall_told;
  of_requests = λ b d. (refl, refl, refl, refl, refl);
  of_transfers = λ b n d. (refl, refl);
  of_ask = λ b setup d n passed. answered b setup d n passed (request_of setup) refl;
  of_command = λ b n d some few i. rw (le-ltb most_data n few, ne_eqb n 0 (λ z. omega arith), in_among b.session.state command_states i);
  of_accepted = λ b k d f l a w. rw (f, l, a, w);
  of_status = λ b status. refl;
  of_stores = stores;
  of_accept = λ k x. refl;
}
