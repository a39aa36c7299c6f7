pub mod Decimal
pub mod Promises
pub mod AtSmallest
