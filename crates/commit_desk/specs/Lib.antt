pub mod History
pub mod State
pub mod Slots
pub mod Desk
pub mod Calls
