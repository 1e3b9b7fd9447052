-- The definitions of a file of records, in the order in which they are read; then what is proved over them.
pub mod Line
pub mod Records
pub mod Files
pub mod Lines
