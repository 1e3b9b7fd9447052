-- The laws by which the code meets its contracts, and what is proved of the answers.
pub mod ReplyLaws
pub mod DisplayLaws
pub mod RepliesHold
pub mod OneAnswer
