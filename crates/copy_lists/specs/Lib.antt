pub mod Stacks
pub mod Turned
