-- Laws of the definitions of a file of records, the proof of the statement in specs/, and what the crate's public functions permit.
pub mod LineLaws
pub mod RecordsLaws
pub mod FilesHold
pub mod LinesHold
pub mod OneAnswer
