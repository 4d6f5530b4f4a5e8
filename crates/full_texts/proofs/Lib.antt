pub mod Room
pub mod Steps
pub mod Named
pub mod Seeking
