pub mod Emptied
pub mod Back
pub mod Runs
pub mod Determined
