pub mod Bytes
pub mod Token
pub mod Walk
pub mod Main
pub mod Between
pub mod Promises
pub mod AtSmallest
