-- `plugcommands::commands::erase_chip` meets its contract.
-- Assumes nothing.
use mathlib.Core.Path.{refl, ◌∙◌}
use mathlib.Core.List.{[]}
use Rattle.memory.specs.Memory.{page}
use Rattle.memory.specs.Erase.{pages_erase}
use Rattle.plug.specs.Config.{erased_config}
use Rattle.plug.specs.Commands.{flash_pages}
use Rattle.plug.specs.Step.{board, perform}
use Rattle.plug.specs.declared.command.Command.TheVariants.{EraseChip}
use Rattle.plugcommands.proofs.SteppedLaws.{not_stepped, done_stepped}
use Rattle.plugcommands.proofs.commands.erase_chip.Goals as goal

pub returns-then-room-lt-DONE_SIZE : goal.returns-then-room-lt-DONE_SIZE
unfolding perform
returns-then-room-lt-DONE_SIZE c =
    let b = board c.args.config c.args.flash.now in
    rw c.no_room.ensures (not_stepped b (perform b EraseChip []) c.args.room.now _ refl c.if-room-lt-DONE_SIZE.true)

pub returns : goal.returns
unfolding perform
returns c =
    let b = board c.args.config c.args.flash.now in
    done_stepped b EraseChip (erased_config c.args.config) (pages_erase (page 0) flash_pages c.args.flash.now) _ c.args.room.now _ _
    (c.done.ensures.value ∙ rw (c.erase_from-pages.ensures.value, c.config_after_erase.ensures)) c.done.ensures.room_after
    c.erase_from-pages.ensures.flash_after c.if-room-lt-DONE_SIZE.false
