pub mod Bytes
pub mod CodeParts
pub mod Promises
pub mod AtSmallest
