pub mod Thirteen
