pub mod Encodings
pub mod StepLemmas
pub mod Settled
pub mod Paces
