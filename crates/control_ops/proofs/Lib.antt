pub mod Exits
pub mod Fitted
pub mod Keeping
pub mod Pairing
pub mod Starts
pub mod StepKeeping
pub mod Stepping
