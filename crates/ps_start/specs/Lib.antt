pub mod Settings
pub mod Scale
