pub mod Faults
pub mod Keeping
pub mod Kept
pub mod Showing
pub mod Texts
pub mod ToSinks
pub mod Writing
