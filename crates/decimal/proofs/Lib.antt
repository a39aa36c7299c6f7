pub mod AtSmallest
pub mod Digits
pub mod Largest
pub mod Promises
pub mod Filled
pub mod Determined
