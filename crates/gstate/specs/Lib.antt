pub mod Beginning
pub mod Dashes
pub mod Layers
pub mod Lines
pub mod Operators
pub mod Setting
