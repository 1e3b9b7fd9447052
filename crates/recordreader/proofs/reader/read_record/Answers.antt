-- `recordreader::reader::read_record` meets its contract: 17 where a test fails, X, 9, or the fields and the data.
-- Assumes nothing.
use Rattle.std.specs.Prelude.{Err}
use Rattle.std.proofs.Common.{◌≡◌, rules, ◌∙◌}
use Rattle.record.specs.declared.reader.ReadError.TheVariants.{BadRecord}
use Rattle.record.specs.Reader.{Reading}
use Rattle.record.proofs.ReaderLaws.{wrong_mark, Answer, refused}
use Rattle.recordreader.proofs.PassedLaws.{wrong_count, wrong_digit, passed, wrong_length_lem, wrong_sum, no_room, all_read}
use Rattle.recordreader.proofs.reader.read_record.Goals as goal
use Rattle.recordreader.proofs.reader.read_record.Goals.{then-characters-n-via-then-characters-n}
use Rattle.recordreader.proofs.reader.read_record.Goals.{then-characters-n-via-else-characters-n+then-characters-ne-MARK}

pub returns-then-characters-n : goal.returns-then-characters-n
unfolding Answer
returns-then-characters-n c =
    let characters = c.args.characters.now in
    let room = c.args.room.now in
    let a : Answer characters room (Err BadRecord) room = elim c.then-characters-n.branch [
      | then-characters-n-via-then-characters-n w ↦ refused characters room (wrong_count characters _ c.data_count-n.ensures w.if-characters-n.true)
      | then-characters-n-via-else-characters-n+then-characters-ne-MARK w ↦ refused characters room (wrong_mark characters w.if-characters-ne-MARK.true)
    ] in
    record { value = a.0; room_after = a.1 }

pub returns-in_err-total : goal.returns-in_err-total
unfolding Answer
returns-in_err-total c =
    let characters = c.args.characters.now in
    let a = refused characters c.args.room.now (wrong_digit characters _ c.read_pairs.ensures.value c.in_err-total.ensures.ok_part) in
    let bad : ◌≡◌ {A = Reading} c.from_residual.result (Err BadRecord) = search rules in
    record { value = bad ∙ a.0; room_after = a.1 }

pub returns-then-from-n : goal.returns-then-from-n
unfolding Answer
returns-then-from-n c =
    let characters = c.args.characters.now in
    let read = c.read_pairs.ensures in
    let p = passed characters _ _ _ _ _ c.if-characters-ne-MARK.false c.if-characters-n.false (read.value, read.held) c.in_ok-total.ensures.ok_part in
    let a = refused characters c.args.room.now (wrong_length_lem characters _ _ _ _ p (rw c.from.ensures at c.if-from-n.true)) in
    record { value = a.0; room_after = a.1 }

pub returns-then-total-ne0 : goal.returns-then-total-ne0
unfolding Answer
returns-then-total-ne0 c =
    let characters = c.args.characters.now in
    let read = c.read_pairs.ensures in
    let p = passed characters _ _ _ _ _ c.if-characters-ne-MARK.false c.if-characters-n.false (read.value, read.held) c.in_ok-total.ensures.ok_part in
    let a = wrong_sum characters c.args.room.now _ _ _ _ p (rw c.from.ensures at c.if-from-n.false) c.if-total-ne0.true in
    record { value = a.0; room_after = a.1 }

pub returns-then-room-n : goal.returns-then-room-n
unfolding Answer
returns-then-room-n c =
    let characters = c.args.characters.now in
    let read = c.read_pairs.ensures in
    let p = passed characters _ _ _ _ _ c.if-characters-ne-MARK.false c.if-characters-n.false (read.value, read.held) c.in_ok-total.ensures.ok_part in
    let a = no_room characters c.args.room.now _ _ _ _ p (rw c.from.ensures at c.if-from-n.false) c.if-total-ne0.false c.if-room-n.true in
    record { value = a.0; room_after = a.1 }

pub returns : goal.returns
unfolding Answer
returns c =
    let characters = c.args.characters.now in
    let read = c.read_pairs.ensures in
    let p = passed characters _ _ _ _ _ c.if-characters-ne-MARK.false c.if-characters-n.false (read.value, read.held) c.in_ok-total.ensures.ok_part in
    let a = all_read characters c.args.room.now _ _ _ _ p (rw c.from.ensures at c.if-from-n.false) c.if-total-ne0.false _ _ c.if-room-n.false
    c.high_first.ensures c.lay.ensures.memory_after in
    record { value = a.0; room_after = a.1 }
