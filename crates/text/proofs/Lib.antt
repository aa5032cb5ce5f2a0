pub mod Lines
pub mod Overlong
pub mod Joins
pub mod Ends
pub mod Turns
