pub mod AtSmallest
pub mod Keys
