pub mod Newest
pub mod Pile
pub mod Steps
pub mod Entries
