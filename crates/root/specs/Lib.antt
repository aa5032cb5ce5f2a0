pub mod Root
pub mod Nearest
pub mod Search
pub mod Special
