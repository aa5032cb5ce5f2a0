pub mod Diagonals
pub mod Interior
pub mod Pick
