pub mod Found
pub mod Owed
pub mod Determined
