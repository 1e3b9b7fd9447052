-- The statement of specs/Performed.antt, and the laws by which the code meets its contracts.
pub mod PerformedLaws
pub mod SteppedLaws
pub mod OneAnswer
