pub mod Columns
mod Controls
pub mod Decision
pub mod Differences
mod JoinControls
pub mod Laws
pub mod Places
pub mod TrueJoin
mod Ties
