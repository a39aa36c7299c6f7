pub mod Differ
pub mod Touched
pub mod Tests
pub mod Counters
pub mod Determined
