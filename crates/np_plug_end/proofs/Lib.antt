pub mod CoreRuns
pub mod Memory
