pub mod Places
pub mod Ends
pub mod Bases
pub mod Bytes
pub mod Lines
pub mod Keeping
