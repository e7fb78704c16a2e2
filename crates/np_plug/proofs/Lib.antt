pub mod Closings
pub mod Scripts
pub mod ScriptWord
pub mod Follows
pub mod UnrefusedRuns
pub mod ScriptCuts
pub mod FollowsCuts
