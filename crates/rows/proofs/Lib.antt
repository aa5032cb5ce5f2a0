pub mod Places
pub mod Rows
mod Stored
pub mod Parts
mod Controls
