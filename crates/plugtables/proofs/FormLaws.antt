-- The statement of specs/Form.antt holds.
-- Assumes nothing.
use Rattle.std.specs.Prelude.{if◌then◌else◌, Option, None, Some}
use mathlib.Core.Bool.{Bool, true, false}
use mathlib.Core.Path.{◌≡◌, refl}
use lib.Dec.{eqb}
use Rattle.plug.specs.declared.command.Bit.{Bit}
use Rattle.plug.specs.declared.command.Bit.TheVariants.{Programmed, Unprogrammed}
use Rattle.plug.specs.declared.command.Setting.{Setting}
use Rattle.plug.specs.declared.command.Command.{Command}
use Rattle.plug.specs.declared.command.Command.TheVariants.{Write}
use Rattle.plugtables.specs.Form.{FormsTold}

-- both rows by their two tests
module _ (s : Bit → Setting) where
  listed : (t u : Bool) (x : Bit) → (if t then Some Programmed else if u then Some Unprogrammed else None) ≡ Some x
      → ◌≡◌ {A = Option Command} (if t then Some (Write (s Programmed)) else if u then Some (Write (s Unprogrammed)) else None) (Some (Write (s x)))
  listed true u x e = cc
  listed false true x e = cc
  listed false false x e = cc

  unlisted : (t u : Bool) → ◌≡◌ {A = Option Bit} (if t then Some Programmed else if u then Some Unprogrammed else None) None
      → ◌≡◌ {A = Option Command} (if t then Some (Write (s Programmed)) else if u then Some (Write (s Unprogrammed)) else None) None
  unlisted true u e = cc
  unlisted false true e = cc
  unlisted false false e = refl

pub forms_told : FormsTold
forms_told = record {
  listed = λ s v x e. listed s (eqb v 0x00) (eqb v 0x01) x e;
  unlisted = λ s v e. unlisted s (eqb v 0x00) (eqb v 0x01) e;
}
