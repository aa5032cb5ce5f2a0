pub mod Asked
mod Controls
pub mod Front
pub mod Hangs
pub mod Known
pub mod Ruled
pub mod Sets
pub mod Signed
pub mod Unmatched
