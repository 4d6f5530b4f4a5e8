pub mod Colours
pub mod Glyphs
pub mod Setting
pub mod Spaces
pub mod Screens
pub mod Halftones
pub mod Operators
