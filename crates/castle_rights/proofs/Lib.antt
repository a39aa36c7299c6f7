pub mod AtSmallest
pub mod Bits
pub mod Determined
