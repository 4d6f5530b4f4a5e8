pub mod Cover
pub mod Rows
pub mod Marks
pub mod Scattered
pub mod Adding
