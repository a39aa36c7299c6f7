pub mod AtSmallest
pub mod Sets
pub mod Judged
pub mod Figures
pub mod Reordered
pub mod Different
pub mod Order
