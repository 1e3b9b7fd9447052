-- `plugcommands::commands::perform` meets its contract: each arm is a command.
-- Assumes nothing.
use Rattle.std.specs.Prelude.{Some}
use mathlib.Core.Path.{refl, ap}
use mathlib.Core.List.{[]}
use lib.ListN.{length}
use Rattle.blank.specs.Blank.{used_in}
use Rattle.plug.specs.Config.{byte_value}
use Rattle.plug.specs.Answers.{value_text, blank_text}
use Rattle.plug.specs.Step.{board, told, perform}
use Rattle.plug.specs.declared.command.Command.TheVariants.{BlankCheck, Write, Read, StartReset}
use Rattle.replies.specs.Replies.{displayed}
use Rattle.replies.proofs.ReplyLaws.{says}
use Rattle.plugcommands.proofs.SteppedLaws.{flash_stays, told_stepped, quiet_stepped, display_stays}
use Rattle.plugcommands.proofs.commands.perform.Goals as goal

pub returns-in-Program : goal.returns-in-Program
returns-in-Program c = rw c.in-Program.is c.program.ensures

pub returns-in-Display : goal.returns-in-Display
returns-in-Display c =
    let b = board c.args.config c.args.flash.now in
    let start = c.in-Display.start.0 in
    let end = c.in-Display.end.0 in
    rw c.in-Display.is
    (flash_stays b (displayed c.args.config start end c.args.flash.now) (length c.args.room.now) _ _ _
    (display_stays c.args.config start end c.args.flash.now) c.say_display.ensures)

pub returns-in-BlankCheck : goal.returns-in-BlankCheck
unfolding perform
returns-in-BlankCheck c =
    let b = board c.args.config c.args.flash.now in
    let start = c.in-BlankCheck.start in
    let end = c.in-BlankCheck.end in
    let n = length c.args.room.now in
    let text = blank_text (used_in start.0 end.0 c.args.flash.now) in
    rw c.in-BlankCheck.is
    (told_stepped b (BlankCheck start end) text n (flash_stays b (told c.args.config text) n _ _ _ refl c.blank_check.ensures))

pub returns-in-EraseBlock : goal.returns-in-EraseBlock
unfolding perform
returns-in-EraseBlock c = rw c.in-EraseBlock.is c.erase_block.ensures

pub returns-in-EraseChip : goal.returns-in-EraseChip
unfolding perform
returns-in-EraseChip c = rw c.in-EraseChip.is c.erase_chip.ensures

pub returns-in-Write : goal.returns-in-Write
unfolding perform
returns-in-Write c =
    let b = board c.args.config c.args.flash.now in
    rw c.in-Write.is (flash_stays b (perform b (Write c.in-Write.setting) []) (length c.args.room.now) _ _ _ refl c.write.ensures)

pub returns-in-Read : goal.returns-in-Read
unfolding perform
returns-in-Read c =
    let b = board c.args.config c.args.flash.now in
    let byte = c.in-Read.byte in
    let n = length c.args.room.now in
    let value = value_text (byte_value byte c.args.config) in
    let said = says c.args.config n _ value (ap value_text c.byte_value.ensures) c.say_value.ensures in
    rw c.in-Read.is (told_stepped b (Read byte) value n (flash_stays b (told c.args.config value) n _ _ _ refl said))

pub returns-in-StartReset : goal.returns-in-StartReset
unfolding perform
returns-in-StartReset c =
    rw (c.in-StartReset.is, c.quiet.ensures)
    (quiet_stepped (board c.args.config c.args.flash.now) (length c.args.room.now) _ (Some StartReset) _)

pub returns-in-StartAt : goal.returns-in-StartAt
unfolding perform
returns-in-StartAt c =
    rw (c.in-StartAt.is, c.quiet-in-StartAt.ensures) (quiet_stepped (board c.args.config c.args.flash.now) (length c.args.room.now) _ _ _)
