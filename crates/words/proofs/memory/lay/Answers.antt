-- `words::memory::lay` meets its contract. What is copied over a part of the memory is, in the whole memory, the bytes laid over it;
-- bytes that were held in between are the same bytes.
-- Assumes nothing.
use Rattle.std.proofs.Common.{◌≡◌, ℕ, ◌+◌, ◌-◌, ◌≤◌, length, take, List, ◌++◌, append_assoc, arith, ◌∙◌, refl}
use Rattle.std.proofs.Math.Seq.{drop-drop, take_at}
use borrow.Author.Tests.{le-leb}
use borrow.Rule.Slice.PartMut.{put_mid}
use Rattle.words.specs.Words.{laid}
use Rattle.words.proofs.memory.lay.Goals as goal

-- bytes that fit, in the place of as many bytes of the memory from a on
is_laid : (a : ℕ) (d m p : List ℕ) → a + length d ≤ length m → p ≡ d → put_mid a (a + length d - a) m p ≡ laid a d m
unfolding laid
is_laid a d m p h e =
    let end : a + (a + length d - a) ≡ a + length d = omega arith in
    rw (le-leb (a + length d) (length m) h, e) (simp (drop-drop, end, append_assoc))

-- what was held, read again
front : (d p z : List ℕ) → p ≡ d → take (length d) (p ++ z) ≡ d
front d p z e = rw e (take_at d z (length d) refl)

pub returns-then-n-gt-HELD-clause-memory_after : goal.returns-then-n-gt-HELD-clause-memory_after
returns-then-n-gt-HELD-clause-memory_after c = is_laid _ _ _ _ (omega arith) c.copy_from_slice.ensures.after

pub returns-clause-memory_after : goal.returns-clause-memory_after
returns-clause-memory_after c =
    is_laid _ _ _ _ (omega arith)
    (c.copy_from_slice-3.ensures.after ∙ front _ _ _ c.copy_from_slice-2.ensures.after)
