-- Laws of what the writer writes: its head, and the lengths that it takes.
-- Assumes nothing.
use Rattle.std.specs.Prelude.{Some}
use mathlib.Core.Path.{◌≡◌, refl}
use mathlib.Core.Bool.{false, not}
use mathlib.Core.List.{List}
use Prim.Native.Nat.{ℕ, ◌-◌}
use lib.Dec.{eqb}
use lib.ListN.{length, take, replicate}
use lib.Seq.{take_at}
use borrow.Author.Tests.{eqb-true, not-false}
use Rattle.command.specs.declared.command.Command.{Command}
use Rattle.command.specs.Transfer.{laid, suffix_size}
use Rattle.words.proofs.WordsLaws.{or_false}
use Rattle.writer.specs.Writer.{head_bytes, head_of, bad_parts, tail_for, put_bytes, command_bytes}

take_head_of : (k : Command) → take (head_of k).size (head_of k).bytes ≡ head_bytes k
take_head_of k = take_at (head_bytes k) (replicate (6 - length (head_bytes k)) 0x00) (length (head_bytes k)) refl

-- what is put for a command, its head and its tail, is the command's bytes
pub put_command : (k : Command) (d s : List ℕ) → put_bytes (head_of k) (tail_for k (length d) (length s)) d s ≡ command_bytes k d s
unfolding put_bytes command_bytes
put_command k d s = rw (take_head_of k)

-- a body as long as its range, and a suffix of 16 bytes
pub right_lengths : (x n d s : ℕ) → bad_parts (Some (laid x n)) d s ≡ false → (d ≡ n) × (s ≡ suffix_size)
right_lengths x n d s q =
    let o = or_false (not (eqb d n)) (not (eqb s suffix_size)) q in
    (eqb-true d n (not-false (eqb d n) o.0), eqb-true s suffix_size (not-false (eqb s suffix_size) o.1))
