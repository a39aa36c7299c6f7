pub mod Key
pub mod Promises
pub mod AtSmallest
