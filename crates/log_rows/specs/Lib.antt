pub mod Games
pub mod Bytes
pub mod NotGood
pub mod OnParts
pub mod Rolls
pub mod Rights
pub mod RollRows
