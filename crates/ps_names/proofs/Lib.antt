mod Entries
mod Placed
