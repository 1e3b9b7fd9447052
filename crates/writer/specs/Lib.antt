-- The definitions of the writer, 8 and 9 in numbers, then that it and the reader undo each other.
pub mod Writer
pub mod WriterOrder
pub mod RoundTrip
