pub mod Bits
pub mod Columns
mod Controls
pub mod Settling
pub mod Trials
pub mod Turns
