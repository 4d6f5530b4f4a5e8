pub mod ErrorName
pub mod Op
pub mod Operators
