-- Laws of a record's bytes and characters: their sum, and how many there are.
-- Assumes nothing.
use mathlib.Core.Path.{◌≡◌}
use mathlib.Core.List.{List, [], ◌∷◌, ◌++◌}
use Prim.Native.Nat.{ℕ, ◌+◌, ◌%◌, ◌<◌}
use native.Mathlib.Omega.{arith}
use lib.ListN.{length, length-append}
use Rattle.lines.proofs.TextLaws.{length_hex_bytes}
use Rattle.record.specs.Record.{character_count, sum, checksum, record_of}

-- a sum that goes on from a number below 256, which stands for all before it
pub sum_on : (total b rest all : ℕ) → (total + (b + rest)) % 256 ≡ all → ((total + b) % 256 + rest) % 256 ≡ all
sum_on total b rest all e = omega arith

pub sum_append : (x y : List ℕ) → sum (x ++ y) ≡ sum x + sum y
sum_append [] y = omega arith
sum_append (b ∷ x) y = omega (arith, sum_append x y)

-- the checksum is the byte that brings the sum to zero
pub checksum_is : (k : ℕ) (bs : List ℕ) → k < 256 → (k + sum bs) % 256 ≡ 0 → k ≡ checksum bs
checksum_is k bs h e = omega arith

pub checksum_zero : (bs : List ℕ) → sum (bs ++ checksum bs ∷ []) % 256 ≡ 0
checksum_zero bs = omega (arith, sum_append bs (checksum bs ∷ []))

pub length_record_of : (offset kind : ℕ) (d : List ℕ) → length (record_of offset kind d) ≡ character_count (length d)
unfolding record_of
length_record_of offset kind d = rw length_hex_bytes (simp length-append (omega arith))
