pub mod Sections
pub mod Numbers
pub mod Standing
mod Examples
