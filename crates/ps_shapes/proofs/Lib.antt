pub mod Ranges
pub mod Masks
pub mod Drawn
pub mod Filling
pub mod Places
pub mod Paths
pub mod Packing
pub mod Sameness
