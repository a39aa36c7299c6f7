pub mod CodeEntries
pub mod CodeTexts
