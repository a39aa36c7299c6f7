pub mod AtSmallest
pub mod JudgedRows
pub mod Mates
pub mod Promises
pub mod Told
