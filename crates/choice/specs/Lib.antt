pub mod Choice
pub mod Figures
pub mod Inner
pub mod Kin
pub mod Ranges
pub mod Starred
pub mod Unmatched
