pub mod CellLemmas
pub mod Items
pub mod Values
pub mod Taken
pub mod Names
pub mod Steps
