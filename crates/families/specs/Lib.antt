pub mod Plans
pub mod Tables
