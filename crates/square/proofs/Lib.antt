pub mod Squares
pub mod Determined
