-- The statement of specs/Form.antt, and that the functions of the tables have one permitted answer each.
pub mod FormLaws
pub mod OneAnswer
