pub mod AtSmallest
pub mod Reading
pub mod Rolls
pub mod Logs
pub mod Both
