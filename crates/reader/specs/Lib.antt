-- How a payload is judged.
pub mod Payload
