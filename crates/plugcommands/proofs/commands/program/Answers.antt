-- `plugcommands::commands::program` meets its contract.
-- Assumes nothing.
use mathlib.Core.Path.{refl, ◌∙◌}
use Rattle.memory.specs.Program.{bytes_stores}
use Rattle.plug.specs.Step.{board, perform}
use Rattle.plug.specs.declared.command.Command.TheVariants.{Program}
use Rattle.plugcommands.proofs.SteppedLaws.{not_stepped, done_stepped}
use Rattle.plugcommands.proofs.commands.program.Goals as goal

pub returns-then-room-lt-DONE_SIZE : goal.returns-then-room-lt-DONE_SIZE
unfolding perform
returns-then-room-lt-DONE_SIZE c =
    let b = board c.args.config c.args.flash.now in
    rw c.no_room.ensures (not_stepped b (perform b (Program c.args.start) c.args.sent.now) c.args.room.now _ refl c.if-room-lt-DONE_SIZE.true)

pub returns : goal.returns
unfolding perform
returns c =
    let b = board c.args.config c.args.flash.now in
    done_stepped b (Program c.args.start) c.args.config (bytes_stores c.args.start c.args.sent.now c.args.flash.now) _ c.args.room.now _ _
    (c.done.ensures.value ∙ rw c.store_bytes-pages.ensures.value) c.done.ensures.room_after c.store_bytes-pages.ensures.flash_after
    c.if-room-lt-DONE_SIZE.false
