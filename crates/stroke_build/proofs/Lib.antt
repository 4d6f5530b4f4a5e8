pub mod Quotients
pub mod Walks
pub mod Bits
pub mod Drawn
pub mod Outlining
pub mod Joining
