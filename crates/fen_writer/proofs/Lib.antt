pub mod Signs
pub mod Rows
pub mod Ranks
pub mod Parts
pub mod Counters
pub mod Determined
