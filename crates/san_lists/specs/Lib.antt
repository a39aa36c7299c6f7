pub mod Lists
pub mod Calls
pub mod Promises
pub mod AtSmallest
