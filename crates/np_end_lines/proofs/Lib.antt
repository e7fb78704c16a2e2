pub mod EndLines
pub mod EarlyLines
pub mod Fronts
