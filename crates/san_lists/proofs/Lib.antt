pub mod AtSmallest
pub mod Counts
pub mod Order
pub mod Fewer
pub mod Names
pub mod Shorter
pub mod Forms
