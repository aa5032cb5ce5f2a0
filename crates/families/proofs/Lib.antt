mod Bits
mod Controls
pub mod Families
mod Runs
