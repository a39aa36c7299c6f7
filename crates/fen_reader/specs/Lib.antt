pub mod CodeMarks
pub mod CodeWalk
pub mod CodePlaces
