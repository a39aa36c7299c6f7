pub mod CodeShort
pub mod CodeStart
pub mod Checked
pub mod CodeWalk
