pub mod Answers
pub mod Job
pub mod Reading
pub mod Status
pub mod Texts
