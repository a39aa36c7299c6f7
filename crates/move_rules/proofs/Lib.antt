pub mod AtSmallest
pub mod Rights
pub mod Squares
pub mod Stay
pub mod Records
pub mod Ranges
