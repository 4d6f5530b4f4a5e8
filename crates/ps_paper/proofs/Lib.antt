pub mod Painting
pub mod Windows
