pub mod Concatenating
pub mod Filling
pub mod Going
pub mod Keeping
pub mod Looking
