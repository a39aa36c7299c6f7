pub mod Answers
pub mod Squares
pub mod Moves
pub mod Records
pub mod Logs
