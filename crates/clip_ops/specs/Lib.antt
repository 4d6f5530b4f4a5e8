pub mod Flats
pub mod Clips
pub mod Operators
