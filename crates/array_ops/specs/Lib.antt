pub mod Parts
pub mod Making
pub mod Members
pub mod Intervals
pub mod Spreading
pub mod Operators
