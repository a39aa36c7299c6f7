pub mod AtSmallest
pub mod HostSettled
