pub mod CodeFitting
pub mod CodeGathered
