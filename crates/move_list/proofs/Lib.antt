pub mod Listed
pub mod Counting
pub mod Determined
