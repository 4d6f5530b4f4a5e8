pub mod Cells
pub mod Keyed
pub mod Ordered
pub mod Same
pub mod Back
pub mod Nexts
pub mod StringCells
