-- The laws of the configuration's definitions, each file with those of the file of specs/ that it is named after; then the proof of the
-- statement of specs/Bytes.antt, and what the public functions permit.
pub mod ConfigLaws
pub mod LevelLaws
pub mod BytesHold
pub mod OneAnswer
