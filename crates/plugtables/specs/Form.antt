-- The bit that a fuse is set to, as the code reads it. Assumes nothing: these are a definition and a statement.
use Rattle.std.specs.Prelude.{if◌then◌else◌, ◌≡◌, ℕ, eqb, Option, None, Some}
use Rattle.plug.specs.declared.command.Bit.{Bit}
use Rattle.plug.specs.declared.command.Bit.TheVariants.{Programmed, Unprogrammed}
use Rattle.plug.specs.declared.command.Setting.{Setting}
use Rattle.plug.specs.declared.command.Command.TheVariants.{Write}
use Rattle.plug.specs.Commands.{fuse_row}

-- "the "bit value" is 00h or 01h"
abbrev pub fuse_bit : ℕ → Option Bit
fuse_bit v = if eqb v 0x00 then Some Programmed else if eqb v 0x01 then Some Unprogrammed else None

-- of either fuse: what stands in the table is told as its command, and nothing else is
pub record FormsTold : Type 0 where
  pub listed : (s : Bit → Setting) (v : ℕ) (x : Bit) → fuse_bit v ≡ Some x → fuse_row s v ≡ Some (Write (s x))
  pub unlisted : (s : Bit → Setting) (v : ℕ) → fuse_bit v ≡ None → fuse_row s v ≡ None
