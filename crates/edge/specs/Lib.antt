pub mod Columns
pub mod Edge
pub mod Moves
