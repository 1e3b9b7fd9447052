-- What the examples use and expect.
pub mod Padding
pub mod OddBoard
pub mod Apart
