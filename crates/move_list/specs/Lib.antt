pub mod MoveList
