pub mod AtSmallest
pub mod Ranges
pub mod Stepping
pub mod Numbers
pub mod Determined
pub mod Bytes
