pub mod Entries
pub mod Stack
pub mod Pairs
pub mod Copies
pub mod Operators
