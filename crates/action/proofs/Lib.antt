pub mod Rules
pub mod ReadBack
pub mod Determined
