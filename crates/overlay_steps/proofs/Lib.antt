pub mod Newest
pub mod Owning
pub mod Piles
pub mod Placed
pub mod Finding
pub mod Taking
pub mod Undoing
pub mod Entries
