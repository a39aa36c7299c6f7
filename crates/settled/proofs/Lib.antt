pub mod AtSmallest
pub mod Keys
pub mod Calling
pub mod Determined
