pub mod CodeRooms
pub mod CodeSets
pub mod CodeChains
