pub mod AtSmallest
pub mod Faults
pub mod Numbers
pub mod Ranges
pub mod Ways
pub mod ReadBack
pub mod Hollow
pub mod Determined
