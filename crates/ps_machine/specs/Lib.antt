pub mod Lines
pub mod SectionText
pub mod Loops
pub mod Refusals
pub mod Runs
pub mod Starting
pub mod Sections
