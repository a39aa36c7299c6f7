pub mod Counting
pub mod LastAction
pub mod Determined
pub mod Held
