-- `serial::respond::obey` meets its contract.
-- Assumes nothing.
use Rattle.std.specs.Prelude.{None}
use Rattle.std.proofs.Common.{◌≡◌, true, false, length, refl, sym}
use Rattle.plug.specs.Config.{level}
use Rattle.plug.specs.Levels.{allowed}
use Rattle.plug.specs.Commands.{bad_range}
use Rattle.plug.specs.Answers.{security_text}
use Rattle.plug.specs.Step.{board, told, obey}
use Rattle.plugcommands.proofs.SteppedLaws.{flash_stays, quiet_stepped, performed_right}
use Rattle.serial.proofs.respond.obey.Goals as goal

pub returns-then-bad_range : goal.returns-then-bad_range
unfolding obey
returns-then-bad_range c =
    let a = c.args in
    let bad : bad_range a.command (length a.sent.now) ≡ true = sym c.if-bad_range.ensures in
    rw (bad, c.quiet.ensures) (quiet_stepped (board a.config a.flash.now) (length a.room.now) _ None _)

pub returns-then-not-is_allowed : goal.returns-then-not-is_allowed
unfolding obey
returns-then-not-is_allowed c =
    let a = c.args in
    let b = board a.config a.flash.now in
    let right : bad_range a.command (length a.sent.now) ≡ false = sym c.if-bad_range.ensures in
    let stopped : allowed a.command (level a.config) ≡ false = sym c.if-not-is_allowed.ensures in
    rw (right, stopped) (flash_stays b (told a.config security_text) (length a.room.now) _ _ _ refl c.say.ensures)

pub returns : goal.returns
unfolding obey
returns c =
    let a = c.args in
    let right : bad_range a.command (length a.sent.now) ≡ false = sym c.if-bad_range.ensures in
    let passed : allowed a.command (level a.config) ≡ true = sym c.if-not-is_allowed.ensures in
    rw (right, passed)
    (performed_right (board a.config a.flash.now) a.command a.sent.now (length a.room.now) _ _ _ _ c.requires right c.perform.ensures)
