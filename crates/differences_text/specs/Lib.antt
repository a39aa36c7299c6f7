pub mod Differences
pub mod Calls
pub mod Promises
pub mod AtRows
