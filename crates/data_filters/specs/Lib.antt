pub mod Codes
pub mod Decoded
pub mod Found
pub mod Law
pub mod Layers
pub mod Rests
pub mod Towers
