pub mod NumberLemmas
pub mod Halving
