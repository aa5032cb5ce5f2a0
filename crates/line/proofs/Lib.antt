pub mod Digits
pub mod Decimals
pub mod Corners
pub mod Cuts
mod WrittenDecimals
mod WrittenWords
pub mod RoundTrip
mod ReadDecimals
mod ReadWords
pub mod OnlyWritten
pub mod Lengths
