pub mod KeyLine
pub mod KeyPage
pub mod Runs
