-- The host's record writer. Assumes nothing: these are definitions.
use Rattle.std.specs.Prelude.{if◌then◌else◌, List, ℕ, ltb, length, Result, Ok, Err}
use Rattle.words.specs.Words.{overlay}
use Rattle.record.specs.Record.{record_of, most_data}
pub use Rattle.record.specs.declared.writer.WriteError.{WriteError}
pub use Rattle.record.specs.declared.writer.WriteError.TheVariants.{BadRecord, TooShort}

-- what the writer answers: how many characters it wrote, or why it wrote none
abbrev pub Written : Type 0
Written = Result ℕ WriteError

-- 17 for data that no record can carry, "a record of wrong length"; then 9, "room too short"
unfoldable pub write_record : ℕ → ℕ → List ℕ → List ℕ → Written
write_record offset kind d room =
    if ltb most_data (length d) then Err BadRecord else
    if ltb (length room) (length (record_of offset kind d)) then Err TooShort else
    Ok (length (record_of offset kind d))

-- "refusing, it leaves its room unwritten, and otherwise the room past its answer"
unfoldable pub room_written : ℕ → ℕ → List ℕ → List ℕ → List ℕ
room_written offset kind d room =
    if ltb most_data (length d) then room else
    if ltb (length room) (length (record_of offset kind d)) then room else
    overlay 0 (record_of offset kind d) room

-- the paper's number of each error
abbrev pub write_error_number : WriteError → ℕ
write_error_number BadRecord = 17
write_error_number TooShort = 9

-- the number of each answer, 0 where it refuses nothing, and how many characters it wrote, 0 where it refused
abbrev pub written_number : Written → ℕ
written_number (Ok n) = 0
written_number (Err e) = write_error_number e

abbrev pub written_count : Written → ℕ
written_count (Ok n) = n
written_count (Err e) = 0
