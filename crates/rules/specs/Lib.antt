-- The definitions of one request and of runs of them, in the order in which they are read; then the papers' sentences beside them, and what is
-- proved over them.
pub mod Session
pub mod Levels
pub mod Result
pub mod Commands
pub mod Requests
pub mod Numbered
pub mod Refusals
pub mod Step
pub mod Answered
pub mod LevelTable
pub mod RefusalOrder
pub mod Setups
pub mod States
pub mod SessionAlone
pub mod Named
pub mod Sending
pub mod Reports
pub mod BenchCases
pub mod Effects
pub mod Accepted
pub mod RefusedWrite
pub mod Busy
pub mod LevelTwo
pub mod Judged
