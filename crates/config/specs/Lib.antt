-- The definitions of the configuration, in the order in which they are read; then what is proved over them.
pub mod Config
pub mod Level
pub mod Bytes
