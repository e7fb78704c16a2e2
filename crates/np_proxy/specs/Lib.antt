pub mod Named
pub mod Exports
pub mod Imports
pub mod Counts
pub mod Sending
