pub mod After
pub mod AtSmallest
pub mod Leads
pub mod Promises
