pub mod Square
pub mod Piece
pub mod Promises
