pub mod Hex
pub mod Objects
pub mod Values
pub mod Fields
pub mod Registers
