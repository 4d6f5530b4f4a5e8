pub mod Operators
pub mod Recording
