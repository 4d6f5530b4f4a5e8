pub mod Limits
pub mod Curves
pub mod Flattening
pub mod Subpaths
pub mod Answers
