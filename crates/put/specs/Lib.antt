pub mod Placed
pub mod Decimal
