mod Columns
mod Controls
pub mod Places
pub mod Readings
