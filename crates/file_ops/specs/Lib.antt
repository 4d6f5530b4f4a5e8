pub mod Files
pub mod Parts
pub mod Reading
pub mod Tokens
pub mod Operators
