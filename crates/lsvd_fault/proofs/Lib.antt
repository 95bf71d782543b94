mod Pieces
pub mod Streams
