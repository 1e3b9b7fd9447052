-- The laws of what the examples expect.
pub mod OddBoardLaws
pub mod ApartLaws
