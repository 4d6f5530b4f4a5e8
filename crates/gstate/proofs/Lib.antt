pub mod Dashing
pub mod Keeping
pub mod Looking
pub mod Returning
pub mod Widths
