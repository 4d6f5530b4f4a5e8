pub mod Jobs
pub mod Law
pub mod Reader
