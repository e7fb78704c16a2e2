pub mod Fronts
pub mod MessageLines
pub mod Listings
pub mod Printing
pub mod Pieces
pub mod Endings
pub mod Shown
pub mod FileReads
