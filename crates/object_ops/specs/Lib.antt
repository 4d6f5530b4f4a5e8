pub mod Attributes
pub mod Accesses
pub mod Binding
pub mod Operators
