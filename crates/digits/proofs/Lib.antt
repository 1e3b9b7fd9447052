-- That the table has one permitted answer.
pub mod OneAnswer
