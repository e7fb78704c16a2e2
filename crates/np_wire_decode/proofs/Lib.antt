pub mod Loops
pub mod IdTexts
pub mod ReadLists
pub mod Heads
pub mod Whole
