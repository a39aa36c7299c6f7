pub mod TwoLimits
pub mod Promises
pub mod AtSmallest
