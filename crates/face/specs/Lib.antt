pub mod Columns
pub mod Face
pub mod Laws
pub mod TrueJoin
