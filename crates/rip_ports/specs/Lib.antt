pub mod Ports
pub mod Calls
pub mod Counted
pub mod MemSource
pub mod MemSink
