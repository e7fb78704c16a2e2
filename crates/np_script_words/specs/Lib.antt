pub mod Spots
pub mod Quoted
pub mod Reads
pub mod Forms
pub mod Lines
pub mod Laws
