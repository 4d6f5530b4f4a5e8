pub mod Points
pub mod Reals
