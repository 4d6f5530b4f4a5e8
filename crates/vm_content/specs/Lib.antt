pub mod Maps
pub mod Content
pub mod Seen
pub mod Coding
pub mod Back
pub mod Next
