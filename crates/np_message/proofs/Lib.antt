pub mod MessageRows
pub mod FaultRows
