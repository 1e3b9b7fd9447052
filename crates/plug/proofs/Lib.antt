-- Laws of the definitions; then the proofs of the statements in specs/.
pub mod AnswerLaws
pub mod ChipLaws
pub mod Shape
pub mod NamedHolds
pub mod HandedHolds
pub mod OrderHolds
pub mod RowsHold
pub mod RangesHold
pub mod SecurityHolds
pub mod StoredHolds
pub mod SaidHolds
pub mod ExamplesHold
pub mod EffectsHold
pub mod LevelTwoHolds
pub mod RunsHold
pub mod PremisesHold
