pub mod Standing
pub mod Moving
pub mod Copying
pub mod Gathering
pub mod Fitting
pub mod Going
pub mod Keeping
