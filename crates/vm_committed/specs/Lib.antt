pub mod Changes
pub mod Whole
pub mod Next
pub mod Undo
