pub mod Lines
pub mod Comments
pub mod Marks
pub mod Sections
pub mod Cuts
pub mod Law
