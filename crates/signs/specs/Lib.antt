pub mod Asked
pub mod Front
pub mod Rotations
pub mod Rule
pub mod Sets
pub mod Table
