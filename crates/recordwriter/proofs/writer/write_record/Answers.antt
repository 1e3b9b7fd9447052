-- `recordwriter::writer::write_record` meets its contract: 17, 9, or the record.
-- Assumes nothing.
use Rattle.std.proofs.Common.{◌≡◌, ◌/◌, ◌%◌, List, ℕ, [], ◌∷◌, length, get_or, arith}
use Rattle.record.specs.Record.{head_bytes}
use Rattle.recordwriter.proofs.WriterLaws.{Answer, all_written}
use Rattle.recordwriter.proofs.writer.write_record.Goals as goal

pub returns : goal.returns
unfolding Answer
returns c =
    let a = c.args in
    let bytes = c.to_be_bytes.result in
    let high : get_or bytes 0 0 ≡ a.offset / 256 = rw c.to_be_bytes.ensures (omega arith) in
    let low : get_or bytes 1 0 ≡ a.offset % 256 = rw c.to_be_bytes.ensures in
    let count = c.in-Ok.ensures.1 in
    let head : List ℕ = c.in-Ok.length ∷ get_or bytes 0 0 ∷ get_or bytes 1 0 ∷ a.kind ∷ [] in
    let is : head ≡ head_bytes a.offset a.kind (length a.bytes.now) = rw (high, low, count) in
    let w : Answer a.offset a.kind a.bytes.now a.room.now _ _ =
    all_written a.offset a.kind a.bytes.now a.room.now head _ c.added-total.result c.wrapping_neg.result _ _ is
    (omega arith) c.added.ensures c.added-total.ensures (omega arith) c.wrapping_neg.ensures c.put_record.ensures in
    record { value = w.0; room_after = w.1 }
