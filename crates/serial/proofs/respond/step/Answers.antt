-- `serial::respond::step` meets its contract: by what the reader says.
-- Assumes nothing.
use Rattle.std.specs.Prelude.{None, Ok, Err}
use Rattle.std.proofs.Common.{length, refl, ap, ◌∙◌}
use Rattle.record.specs.declared.reader.ReadError.TheVariants.{WrongChecksum, BadRecord, TooShort}
use Rattle.plug.specs.Answers.{wrong_checksum_text}
use Rattle.plug.specs.Step.{board, told}
use Rattle.plugcommands.proofs.SteppedLaws.{flash_stays, quiet_stepped}
use Rattle.serial.proofs.StepLaws.{wrong_size, by_reading, was_read, data_inside, data_count_lem, data_front}
use Rattle.serial.proofs.respond.step.Goals as goal

pub returns-then-wrong_size : goal.returns-then-wrong_size
returns-then-wrong_size c =
    let a = c.args in
    let b = board a.config a.flash.now in
    let n = length a.room.now in
    wrong_size b a.characters.now n c.if-wrong_size.true (rw c.quiet.ensures (quiet_stepped b n _ None _))

pub slice_bounds-held-end : goal.slice_bounds-held-end
slice_bounds-held-end c = data_inside _ _ refl _ c.read_record.ensures.value c.in-Ok.fields c.in-Ok.is _ c.read_record.ensures.room_after

pub slice_bounds-obey_record-end : goal.slice_bounds-obey_record-end
slice_bounds-obey_record-end c = data_count_lem _ _ refl _ c.read_record.ensures.value c.in-Ok.fields c.in-Ok.is _ c.read_record.ensures.room_after

pub returns-in-Ok : goal.returns-in-Ok
returns-in-Ok c =
    let a = c.args in
    let b = board a.config a.flash.now in
    let cs = a.characters.now in
    let fields = c.in-Ok.fields in
    let read = c.read_record.ensures in
    let taken = was_read cs _ refl _ read.value (Ok fields) c.in-Ok.is in
    let front = data_front cs _ refl _ read.value fields c.in-Ok.is _ read.room_after in
    by_reading b cs (length a.room.now) (Ok fields) c.if-wrong_size.false taken (rw (← front) c.obey_record.ensures)

pub returns-in-Err-WrongChecksum : goal.returns-in-Err-WrongChecksum
returns-in-Err-WrongChecksum c =
    let a = c.args in
    let b = board a.config a.flash.now in
    let n = length a.room.now in
    let wrong = was_read a.characters.now _ refl _ c.read_record.ensures.value (Err WrongChecksum)
    (c.in-Err-WrongChecksum.is ∙ ap Err c.in-Err-WrongChecksum.field-0-is) in
    by_reading b a.characters.now n (Err WrongChecksum) c.if-wrong_size.false wrong
    (flash_stays b (told a.config wrong_checksum_text) n _ _ _ refl c.say.ensures)

pub returns-in-Err-BadRecord : goal.returns-in-Err-BadRecord
returns-in-Err-BadRecord c =
    let a = c.args in
    let b = board a.config a.flash.now in
    let n = length a.room.now in
    let bad = c.in-Err-BadRecord in
    let refused = was_read a.characters.now _ refl _ c.read_record.ensures.value (Err BadRecord) (bad.is ∙ ap Err bad.field-0-is) in
    by_reading b a.characters.now n (Err BadRecord) c.if-wrong_size.false refused
    (rw c.quiet-in-Err-BadRecord.ensures (quiet_stepped b n _ None _))

pub returns-in-Err-TooShort : goal.returns-in-Err-TooShort
returns-in-Err-TooShort c =
    let a = c.args in
    let b = board a.config a.flash.now in
    let n = length a.room.now in
    let short = c.in-Err-TooShort in
    let refused = was_read a.characters.now _ refl _ c.read_record.ensures.value (Err TooShort) (short.is ∙ ap Err short.field-0-is) in
    by_reading b a.characters.now n (Err TooShort) c.if-wrong_size.false refused
    (rw c.quiet-in-Err-TooShort.ensures (quiet_stepped b n _ None _))
