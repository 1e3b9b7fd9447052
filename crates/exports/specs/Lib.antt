-- What the exported functions promise.
pub mod Exported
pub mod Records
pub mod Told
pub mod Delivered
