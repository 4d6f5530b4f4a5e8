pub mod Shifts
pub mod Keeping
