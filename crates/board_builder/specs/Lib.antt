pub mod BoardBuilder
pub mod Steps
pub mod Getters
pub mod Promises
pub mod AtSmallest
