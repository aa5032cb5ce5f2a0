pub mod Bounds
mod Looks
pub mod Sums
