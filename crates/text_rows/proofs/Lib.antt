pub mod KeyLines
pub mod Fens
pub mod Reports
pub mod SettledRows
pub mod AfterMoves
pub mod DifferenceLines
