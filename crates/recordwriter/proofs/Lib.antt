-- The laws by which the code meets its contracts, and what the crate's public function permits.
pub mod WriterLaws
pub mod OneAnswer
