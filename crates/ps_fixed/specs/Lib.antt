pub mod Rounding
pub mod Arithmetic
pub mod Matrices
pub mod Roots
pub mod Sines
pub mod ArcTangents
pub mod Decimals
pub mod Laws
