pub mod Judging
pub mod Clipping
pub mod Papers
pub mod Drawing
pub mod Keeping
