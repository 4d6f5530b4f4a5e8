pub mod Pens
pub mod Corners
pub mod Drawing
pub mod Sides
pub mod Outlines
