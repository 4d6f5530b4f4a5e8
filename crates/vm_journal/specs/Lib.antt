pub mod Journal
pub mod Part
