-- That what is packed is unpacked again, that the tables of the header hold, and that each public function has one permitted answer.
pub mod LayoutHolds
pub mod TablesHold
pub mod PackingHolds
pub mod OneAnswer
