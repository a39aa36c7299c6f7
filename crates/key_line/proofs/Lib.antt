pub mod Lines
pub mod Refusals
pub mod Determined
pub mod Going
pub mod Runs
