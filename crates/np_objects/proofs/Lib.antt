pub mod Names
pub mod Finding
pub mod FieldLists
pub mod Keeping
pub mod Lookups
pub mod Histories
pub mod NamesBeside
pub mod Changes
