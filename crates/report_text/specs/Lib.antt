pub mod Report
pub mod Sets
pub mod Repeats
pub mod AtSmallest
pub mod Promises
