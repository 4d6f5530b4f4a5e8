pub mod Growing
pub mod Bytes
pub mod Full
