pub mod Fits
pub mod Memory
pub mod Ground
pub mod Kin
pub mod Start
pub mod Answer
pub mod Looks
mod Clauses
