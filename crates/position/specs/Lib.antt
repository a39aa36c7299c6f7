pub mod Layout
pub mod Repeats
pub mod Places
pub mod Promises
pub mod AtSmallest
