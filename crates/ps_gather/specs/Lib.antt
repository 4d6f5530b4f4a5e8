pub mod Cells
pub mod Ended
pub mod Gathered
