-- The answers as the code has them.
pub mod Replies
