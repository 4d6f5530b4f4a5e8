pub mod Order
pub mod Places
pub mod Stored
pub mod Keys
pub mod Frame
pub mod Undo
pub mod Replace
pub mod Writes
pub mod Track
pub mod Seen
pub mod Laying
mod Examples
pub mod Keeping
