pub mod Left
pub mod Starting
