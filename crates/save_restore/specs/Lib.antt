pub mod Modes
pub mod Operators
pub mod Restoring
pub mod Saving
