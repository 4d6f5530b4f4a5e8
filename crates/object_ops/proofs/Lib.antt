pub mod Standing
pub mod Walking
pub mod Bound
pub mod Keeping
