pub mod CodeSigns
pub mod CodeTexts
