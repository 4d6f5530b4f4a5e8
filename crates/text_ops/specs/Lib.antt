pub mod Parts
pub mod Plain
pub mod Strings
pub mod Messages
pub mod Listing
pub mod Numbers
pub mod Conversions
pub mod Operators
