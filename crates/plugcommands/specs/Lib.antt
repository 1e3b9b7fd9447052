-- What a command does, as the code has it.
pub mod Performed
