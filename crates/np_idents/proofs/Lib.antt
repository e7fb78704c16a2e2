pub mod IdTexts
pub mod Interning
