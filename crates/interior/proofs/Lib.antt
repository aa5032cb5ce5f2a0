pub mod Bounds
mod Controls
mod Insides
pub mod Picks
mod Settled
mod Sights
pub mod Unmatched
