pub mod Answer
pub mod Ascii
pub mod Determined
pub mod Numbers
pub mod Parts
pub mod CodePushed
pub mod Promises
