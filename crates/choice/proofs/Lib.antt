mod Controls
mod Families
mod Inner
pub mod Ranges
mod Starred
mod Tested
mod Unmatched
