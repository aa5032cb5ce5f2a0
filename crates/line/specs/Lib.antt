pub mod Number
pub mod Line
pub mod Written
