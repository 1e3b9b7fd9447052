-- Laws of what becomes of a command, and that it is told in one way.
pub mod BodyLaws
pub mod FateLaws
pub mod OneAnswer
