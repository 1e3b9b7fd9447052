-- The law of tables, laws of digits and records, the round trip, the statements, and what the public functions permit.
pub mod Table
pub mod DigitsLaws
pub mod RecordLaws
pub mod ReaderLaws
pub mod HexLaws
pub mod RoundTripHolds
pub mod PaperRecords
pub mod FramesHold
pub mod FrameBytesHold
pub mod OneAnswer
