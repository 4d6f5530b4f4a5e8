pub mod Standing
pub mod Starting
pub mod Again
pub mod Onward
