pub mod Planes
pub mod Sums
pub mod Chains
pub mod Filling
pub mod Determined
