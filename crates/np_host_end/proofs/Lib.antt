pub mod CommandsLeft
pub mod CoreRuns
pub mod LostEnds
pub mod Measures
pub mod Memory
pub mod PageTurns
