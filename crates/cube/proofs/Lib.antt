pub mod AtCorners
pub mod Bounds
mod Controls
pub mod Signs
pub mod Table
