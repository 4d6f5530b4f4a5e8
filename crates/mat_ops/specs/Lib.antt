pub mod Matrices
pub mod Current
pub mod Arrays
pub mod Changing
pub mod Carrying
pub mod Operators
