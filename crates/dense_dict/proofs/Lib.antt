pub mod Walks
pub mod Growth
pub mod Search
pub mod Seats
