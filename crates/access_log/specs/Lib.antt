pub mod Order
pub mod Reads
pub mod Index
pub mod Agreement
