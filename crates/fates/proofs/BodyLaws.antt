-- The bytes of a program transfer lie between the two places that its parts name.
-- Assumes nothing.
use Rattle.std.specs.Prelude.{Option, None, Some}
use mathlib.Core.Path.{◌≡◌}
use mathlib.Core.List.{List}
use Prim.Native.Nat.{ℕ, ◌+◌, ◌-◌}
use native.Mathlib.Omega.{arith}
use lib.ListN.{length, take, drop}
use Rattle.command.specs.declared.transfer.Transfer.{Transfer}
use Rattle.command.specs.declared.reader.Parts.{Parts}
use Rattle.command.specs.Transfer.{body_place, transfer_body}
use Rattle.command.specs.Reader.{transfer_parts}

pub piece : (t : Option Transfer) (d : List ℕ) (p : Parts) → p ≡ transfer_parts t (length d) → take (p.suffix - p.body) (drop p.body d) ≡ transfer_body t d
piece (Some t) d p q =
    let bytes : body_place t.pad + t.bytes - body_place t.pad ≡ t.bytes = omega arith in
    rw (q, bytes)
piece None d p q =
    let none : length d - length d ≡ 0 = omega arith in
    rw (q, none)
