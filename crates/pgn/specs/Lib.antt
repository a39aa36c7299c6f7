pub mod Reader
pub mod CodeWalkers
