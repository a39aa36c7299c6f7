pub mod Pushing
pub mod Keys
pub mod Starts
pub mod Bytes
pub mod Acts
pub mod Written
pub mod Whole
pub mod Determined
