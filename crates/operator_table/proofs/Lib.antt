pub mod Walking
pub mod Containers
