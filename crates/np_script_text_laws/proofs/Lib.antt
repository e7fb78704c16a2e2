pub mod Judged
pub mod TextLines
pub mod OneSet
pub mod Refused
pub mod OwnText
pub mod OneError
