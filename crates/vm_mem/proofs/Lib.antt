pub mod Conditions
pub mod Glances
