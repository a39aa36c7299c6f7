pub mod Promises
pub mod AtSmallest
