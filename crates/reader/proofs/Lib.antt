-- Laws of the judge, and that each public function has one permitted answer.
pub mod PayloadLaws
pub mod OneAnswer
