-- The paper's examples of the bench program, the laws of a run, and what the crate's public function permits.
pub mod ExampleHolds
pub mod RunLaws
pub mod OneAnswer
