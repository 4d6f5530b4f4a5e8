pub mod Places
pub mod Noting
mod Parting
mod Dropping
mod Reverting
mod Closing
mod Copying
mod Unnoted
