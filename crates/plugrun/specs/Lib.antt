-- What is written for a file of records, and one turn of the run.
pub mod Written
pub mod Turn
