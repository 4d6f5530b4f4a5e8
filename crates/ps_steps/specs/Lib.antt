pub mod Executing
pub mod Leaving
pub mod Met
pub mod Next
pub mod Operators
pub mod Procedures
pub mod Texts
pub mod Walks
