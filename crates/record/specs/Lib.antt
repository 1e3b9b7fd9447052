-- The definitions of a record, in the order in which they are read.
pub mod Digits
pub mod Record
pub mod Reader
pub mod Writer
pub mod RoundTrip
pub mod Frames
pub mod FrameBytes
