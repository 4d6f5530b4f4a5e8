pub mod Operators
pub mod Kept
