pub mod Papers
pub mod Entries
pub mod Contents
pub mod Headers
pub mod Keys
pub mod Cells
pub mod Dump
