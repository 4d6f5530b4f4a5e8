pub mod Rounded
pub mod Placed
pub mod Weighing
pub mod Walking
