pub mod Fields
pub mod LiveObjects
pub mod Objects
pub mod History
