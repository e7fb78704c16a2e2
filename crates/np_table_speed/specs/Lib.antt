pub mod Work
pub mod References
