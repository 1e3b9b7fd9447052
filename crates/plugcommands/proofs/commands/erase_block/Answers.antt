-- `plugcommands::commands::erase_block` meets its contract.
-- Assumes nothing.
use mathlib.Core.Path.{refl, ◌∙◌}
use mathlib.Core.List.{[]}
use Rattle.memory.specs.Erase.{pages_erase}
use Rattle.plug.specs.Commands.{block_page, block_pages}
use Rattle.plug.specs.Step.{board, perform}
use Rattle.plug.specs.declared.command.Command.TheVariants.{EraseBlock}
use Rattle.plugcommands.proofs.SteppedLaws.{not_stepped, done_stepped}
use Rattle.plugcommands.proofs.commands.erase_block.Goals as goal

pub returns-then-room-lt-DONE_SIZE : goal.returns-then-room-lt-DONE_SIZE
unfolding perform
returns-then-room-lt-DONE_SIZE c =
    let b = board c.args.config c.args.flash.now in
    rw c.no_room.ensures (not_stepped b (perform b (EraseBlock c.args.block) []) c.args.room.now _ refl c.if-room-lt-DONE_SIZE.true)

pub returns : goal.returns
unfolding perform
returns c =
    let b = board c.args.config c.args.flash.now in
    let k = c.args.block in
    done_stepped b (EraseBlock k) c.args.config (pages_erase (block_page k) (block_pages k) c.args.flash.now) _ c.args.room.now _ _
    (c.done.ensures.value ∙ rw (c.erase_from-pages.ensures.value, c.block_pages-count.ensures.count, c.block_pages-count.ensures.first))
    c.done.ensures.room_after
    (c.erase_from-pages.ensures.flash_after ∙ rw (c.block_pages-count.ensures.count, c.block_pages-count.ensures.first)) c.if-room-lt-DONE_SIZE.false
