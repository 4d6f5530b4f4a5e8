pub mod Changed
pub mod Entries
pub mod Keeping
pub mod Recorded
pub mod Told
pub mod Turned
pub mod Units
