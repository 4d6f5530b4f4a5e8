pub mod Sequence
pub mod Between
pub mod Counting
pub mod Counted
pub mod Running
