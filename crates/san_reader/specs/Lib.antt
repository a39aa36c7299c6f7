pub mod CodeShort
pub mod Promises
