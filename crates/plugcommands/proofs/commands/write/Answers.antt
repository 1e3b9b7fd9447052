-- `plugcommands::commands::write` meets its contract.
-- Assumes nothing.
use mathlib.Core.Path.{refl, ◌∙◌}
use mathlib.Core.List.{[]}
use Rattle.plug.specs.Config.{with_setting}
use Rattle.plug.specs.Step.{board, perform}
use Rattle.plug.specs.declared.command.Command.TheVariants.{Write}
use Rattle.replies.proofs.ReplyLaws.{no_room, in_room_lem, done_fits}
use Rattle.plugcommands.proofs.commands.write.Goals as goal

pub returns-then-room-lt-DONE_SIZE : goal.returns-then-room-lt-DONE_SIZE
unfolding perform
returns-then-room-lt-DONE_SIZE c =
    let done = perform (board c.args.config []) (Write c.args.setting) [] in
    rw c.no_room.ensures (no_room c.args.config done c.args.room.now _ refl c.if-room-lt-DONE_SIZE.true)

pub returns : goal.returns
unfolding perform
returns c =
    let done = perform (board c.args.config []) (Write c.args.setting) [] in
    let said = done_fits (with_setting c.args.setting c.args.config) 0 c.args.room.now c.if-room-lt-DONE_SIZE.false in
    rw (c.done.ensures.value, c.with_setting.ensures, said.0)
    (in_room_lem c.args.config done c.args.room.now _ (c.done.ensures.room_after ∙ said.1) c.if-room-lt-DONE_SIZE.false)
