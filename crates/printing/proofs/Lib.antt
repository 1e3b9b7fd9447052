-- The laws by which the code meets its contracts, and what the crate's public functions permit.
pub mod NumberLaws
pub mod PieceLaws
pub mod OneAnswer
