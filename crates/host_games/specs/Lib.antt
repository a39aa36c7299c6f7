pub mod GameCalls
pub mod Promises
pub mod AtSmallest
