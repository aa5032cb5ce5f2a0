pub mod Rows
pub mod Results
pub mod OldRows
pub mod Parts
