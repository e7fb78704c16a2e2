pub mod FirstLine
pub mod NoFields
pub mod LineKinds
pub mod WholeTexts
pub mod OneValue
pub mod Deciding
