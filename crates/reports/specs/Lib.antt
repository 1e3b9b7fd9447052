-- The report as the code has it.
pub mod Report
