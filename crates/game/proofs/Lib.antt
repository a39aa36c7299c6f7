pub mod Answers
pub mod Ways
pub mod Determined
