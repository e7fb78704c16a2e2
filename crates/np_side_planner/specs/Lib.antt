pub mod CallResults
pub mod Objects
pub mod Registers
