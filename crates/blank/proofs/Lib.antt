-- The laws of the blank search.
pub mod BlankLaws
pub mod SearchLaws
pub mod SameBlankLaws
pub mod OneAnswer
