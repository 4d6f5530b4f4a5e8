pub mod Rows
pub mod Counts
pub mod Merging
pub mod Walk
