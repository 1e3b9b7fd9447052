-- `replies::display::say_display` meets its contract.
-- Assumes nothing.
use Rattle.std.specs.Prelude.{None}
use Rattle.std.proofs.Common.{◌≡◌, ◌+◌, ◌-◌, length, refl, arith}
use Rattle.plug.specs.Answers.{display_text}
use Rattle.plug.specs.Step.{told}
use Rattle.plug.proofs.AnswerLaws.{length_display}
use Rattle.replies.proofs.ReplyLaws.{no_room, stands_said, quiet_replied}
use Rattle.replies.proofs.DisplayLaws.{wrong_flash, backward, forward}
use Rattle.replies.proofs.display.say_display.Goals as goal

pub returns-then-flash-ne-FLASH_SIZE : goal.returns-then-flash-ne-FLASH_SIZE
returns-then-flash-ne-FLASH_SIZE c =
    let a = c.args in
    rw (c.quiet.ensures, wrong_flash a.config a.start.0 a.end.0 a.flash.now c.if-flash-ne-FLASH_SIZE.true)
    (quiet_replied _ (length a.room.now) _ None _)

pub returns-then-past-first : goal.returns-then-past-first
returns-then-past-first c =
    let a = c.args in
    rw (c.quiet-then-past-first.ensures, backward a.config a.start.0 a.end.0 a.flash.now c.if-flash-ne-FLASH_SIZE.false (omega arith))
    (quiet_replied _ (length a.room.now) _ None _)

pub returns-then-room-size : goal.returns-then-room-size
returns-then-room-size c =
    let a = c.args in
    let size = length_display a.start.0 a.end.0 a.flash.now (omega arith) in
    let said = told a.config (display_text a.start.0 a.end.0 a.flash.now) in
    rw (c.no_room.ensures, forward a.config a.start.0 a.end.0 a.flash.now c.if-flash-ne-FLASH_SIZE.false (omega arith))
    (no_room a.config said a.room.now _ refl (omega (arith, size, c.if-room-size.true)))

pub put_lines-length-requires-clause-flash_in_bounds : goal.put_lines-length-requires-clause-flash_in_bounds
put_lines-length-requires-clause-flash_in_bounds c =
    let a = c.args in
    let last : a.end.0 + 1 - 1 ≡ a.end.0 = omega arith in
    let size = length_display a.start.0 a.end.0 a.flash.now (omega arith) in
    rw (c.from-first.ensures, c.from-past.ensures, last) (omega (arith, size, c.if-room-size.false))

pub returns : goal.returns
returns c =
    let a = c.args in
    let last : a.end.0 + 1 - 1 ≡ a.end.0 = omega arith in
    rw (forward a.config a.start.0 a.end.0 a.flash.now c.if-flash-ne-FLASH_SIZE.false (omega arith))
    (rw c.answered.ensures (stands_said _ _ _ _ _ (rw (c.from-first.ensures, c.from-past.ensures, last) at c.put_lines-length.ensures)))
