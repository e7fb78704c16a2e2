pub mod IdKey
pub mod IdText
pub mod Idents
