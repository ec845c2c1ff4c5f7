pub mod Feed
pub mod Pieces
pub mod Private
pub mod Sink
pub mod Taker
