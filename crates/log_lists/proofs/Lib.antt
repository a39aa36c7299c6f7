pub mod AtSmallest
pub mod Games
pub mod SortedAlike
