pub mod Reals
pub mod Plain
