pub mod Looked
pub mod Held
pub mod Looking
pub mod Pairing
pub mod Reading
pub mod Copying
pub mod Keeping
