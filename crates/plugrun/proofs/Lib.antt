-- The longest answer, the laws of a turn and of the pieces, and what the crate's public functions permit.
pub mod LongestLaws
pub mod TurnLaws
pub mod PiecesLaws
pub mod OneAnswer
pub mod ExamplesHold
