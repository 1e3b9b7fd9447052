-- Bytes are laid where they fit, and else not: the statement of specs/Words.antt.
-- Assumes nothing.
use mathlib.Core.Path.{refl}
use Prim.Native.Nat.{◌+◌}
use lib.ListN.{length}
use borrow.Author.Tests.{le-leb, lt-leb}
use Rattle.words.specs.Words.{laid, AnyLaid}
use Rattle.words.proofs.WordsLaws.{overlay_programmed}

pub any_laid : AnyLaid
unfolding laid
any_laid a d m = record {
  over = refl;
  told = le-leb (a + length d) (length m);
  programmed = λ h. rw (le-leb (a + length d) (length m) h) (overlay_programmed a d m h);
  not_told = lt-leb (a + length d) (length m);
  kept = λ h. rw (lt-leb (a + length d) (length m) h);
}
