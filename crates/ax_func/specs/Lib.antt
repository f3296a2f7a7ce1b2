pub mod Pieces
pub mod Seen
