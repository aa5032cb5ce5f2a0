pub mod Digits
mod Numbers
