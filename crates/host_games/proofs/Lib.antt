pub mod AtSmallest
pub mod HostGames
