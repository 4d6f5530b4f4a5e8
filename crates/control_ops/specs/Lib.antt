pub mod Calls
pub mod Executing
pub mod Leaving
pub mod Loops
pub mod Operators
pub mod Rounds
