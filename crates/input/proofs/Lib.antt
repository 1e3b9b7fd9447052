-- One permitted answer; the law by which the code meets its contract stands in crates/lines, for each program that reads.
pub mod OneAnswer
