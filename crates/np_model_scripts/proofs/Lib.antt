pub mod CommandLists
pub mod WellFormed
pub mod ServedLevels
pub mod Scripts
pub mod Greatest
