pub mod Number
pub mod Coordinate
pub mod Base
pub mod Promises
pub mod Faults
pub mod AtSmallest
