pub mod Bools
pub mod Compares
mod Controls
pub mod Finite
pub mod Magnitudes
pub mod NanBits
pub mod Rounding
pub mod Same
pub mod Sizes
pub mod Values
pub mod Wholes
