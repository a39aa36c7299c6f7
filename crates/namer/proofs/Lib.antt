pub mod Finds
pub mod Trying
pub mod Naming
pub mod Determined
