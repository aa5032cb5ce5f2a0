pub mod Lists
pub mod Tries
