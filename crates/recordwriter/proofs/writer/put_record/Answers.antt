-- `recordwriter::writer::put_record` meets its contract: each part stands right after the one before it.
-- Assumes nothing.
use Rattle.std.proofs.Common.{rules}
use Rattle.lines.proofs.RoomLaws.{put_fits, put_there}
use Rattle.recordwriter.proofs.WriterLaws.{head_fits, data_fits, checksum_fits, all_put}
use Rattle.recordwriter.proofs.writer.put_record.Goals as goal

pub unwrap-body-requires : goal.unwrap-body-requires
unwrap-body-requires c =
    let a = c.args in
    put_fits _ _ _ _ c.hex_text.ensures.value
    (head_fits a.head a.bytes.now a.room.now _ a.checksum (search rules) c.requires c.lay.ensures.memory_after)

pub unwrap-last-requires : goal.unwrap-last-requires
unwrap-last-requires c =
    let a = c.args in
    let l = c.lay.ensures.memory_after in
    let fit = head_fits a.head a.bytes.now a.room.now _ a.checksum (search rules) c.requires l in
    let s = put_there _ _ _ _ _ _ c.hex_text.ensures.value c.hex_text.ensures.room_after c.unwrap-body.ensures fit in
    put_fits _ _ _ _ c.hex_text-2.ensures.value (data_fits a.head a.bytes.now a.room.now _ a.checksum (search rules) c.requires l _ _ s)

pub unwrap-requires : goal.unwrap-requires
unwrap-requires c =
    let a = c.args in
    let l = c.lay.ensures.memory_after in
    let fit = head_fits a.head a.bytes.now a.room.now _ a.checksum (search rules) c.requires l in
    let s = put_there _ _ _ _ _ _ c.hex_text.ensures.value c.hex_text.ensures.room_after c.unwrap-body.ensures fit in
    let fit' = data_fits a.head a.bytes.now a.room.now _ a.checksum (search rules) c.requires l _ _ s in
    let t = put_there _ _ _ _ _ _ c.hex_text-2.ensures.value c.hex_text-2.ensures.room_after c.unwrap-last.ensures fit' in
    put_fits _ _ _ _ c.hex_text-3.ensures.value (checksum_fits a.head a.bytes.now a.room.now _ a.checksum (search rules) c.requires l _ _ s _ _ t)

pub returns : goal.returns
returns c =
    let a = c.args in
    let l = c.lay.ensures.memory_after in
    let fit = head_fits a.head a.bytes.now a.room.now _ a.checksum (search rules) c.requires l in
    let s = put_there _ _ _ _ _ _ c.hex_text.ensures.value c.hex_text.ensures.room_after c.unwrap-body.ensures fit in
    let fit' = data_fits a.head a.bytes.now a.room.now _ a.checksum (search rules) c.requires l _ _ s in
    let t = put_there _ _ _ _ _ _ c.hex_text-2.ensures.value c.hex_text-2.ensures.room_after c.unwrap-last.ensures fit' in
    let fit'' = checksum_fits a.head a.bytes.now a.room.now _ a.checksum (search rules) c.requires l _ _ s _ _ t in
    all_put a.head a.bytes.now a.room.now _ a.checksum (search rules) c.requires l _ _ s _ _ t _ _
    (put_there _ _ _ _ _ _ c.hex_text-3.ensures.value c.hex_text-3.ensures.room_after c.unwrap.ensures fit'')
