-- `plugcommands::commands::blank_check` meets its contract.
-- Assumes nothing.
use mathlib.Core.Path.{sym}
use Rattle.blank.specs.Blank.{used_in}
use Rattle.blank.proofs.BlankLaws.{used_at, used_nowhere}
use Rattle.plugcommands.proofs.commands.blank_check.Goals as goal

pub returns-in-Some : goal.returns-in-Some
returns-in-Some c =
    rw (used_at (used_in c.args.start.0 c.args.end.0 c.args.flash.now) _ (sym c.in-Some.ensures)) c.say_address.ensures

pub returns-in-None : goal.returns-in-None
returns-in-None c =
    rw (used_nowhere (used_in c.args.start.0 c.args.end.0 c.args.flash.now) (sym c.in-None.ensures)) c.say.ensures
