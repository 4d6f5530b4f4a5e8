pub mod Histories
pub mod Steps
pub mod Once
pub mod Runs
