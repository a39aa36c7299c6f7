pub mod SettledCalls
pub mod Promises
pub mod AtSmallest
