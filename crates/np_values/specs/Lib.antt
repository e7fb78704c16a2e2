pub mod Handler
pub mod Name
pub mod NpError
pub mod NpReason
pub mod Quoted
pub mod StreamMode
pub mod Text
pub mod Value
