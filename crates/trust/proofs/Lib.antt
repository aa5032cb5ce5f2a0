mod Controls
pub mod Products
pub mod Turning
pub mod Sides
pub mod Trusting
