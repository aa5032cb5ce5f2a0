pub mod Bits
pub mod Corners
pub mod Refusals
pub mod Signs
