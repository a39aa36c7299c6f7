pub mod AtSmallest
pub mod JudgedRows
pub mod Once
pub mod Judged
pub mod Names
pub mod Mates
pub mod Told
pub mod Own
