pub mod Paths
pub mod Points
pub mod Building
pub mod Arcs
pub mod Boxes
pub mod Calls
pub mod Walks
pub mod Operators
