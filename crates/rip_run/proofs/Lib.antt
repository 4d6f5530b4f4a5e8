mod Answering
mod Giving
mod Pieces
mod Rising
mod Sinks
