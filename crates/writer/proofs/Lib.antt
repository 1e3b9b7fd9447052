-- The laws of the writer's definitions, that the statements of specs/RoundTrip.antt hold, and that each public function has one
-- permitted answer.
pub mod WriterLaws
pub mod WriterOrderHolds
pub mod RoundTripHolds
pub mod OneAnswer
