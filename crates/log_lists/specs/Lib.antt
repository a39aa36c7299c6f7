pub mod Relisted
pub mod Promises
pub mod AtSmallest
