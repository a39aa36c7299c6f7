pub mod Laws
pub mod Reading
pub mod Fronts
pub mod Answers
pub mod Checks
pub mod Writing
pub mod Determined
pub mod Short
