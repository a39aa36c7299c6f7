pub mod Laws
pub mod Counting
pub mod Sized
pub mod Checks
pub mod Whole
pub mod Determined
