pub mod Numbers
pub mod Range
pub mod Wholes
