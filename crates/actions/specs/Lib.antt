pub mod Part
pub mod CodeCount
