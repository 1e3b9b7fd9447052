-- The form of a record as the code has it.
pub mod Form
