pub mod Table
pub mod ClassRows
