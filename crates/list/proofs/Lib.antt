mod Controls
pub mod Empties
mod Firsts
mod Outcomes
mod Rows
