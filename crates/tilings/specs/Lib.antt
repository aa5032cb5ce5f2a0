pub mod Answers
pub mod Plan
pub mod Tables
pub mod Tilings
