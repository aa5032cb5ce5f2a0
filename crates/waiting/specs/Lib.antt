pub mod Bytes
pub mod Waits
