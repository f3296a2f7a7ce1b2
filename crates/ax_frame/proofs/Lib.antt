pub mod Frames
pub mod Parts
pub mod Slots
pub mod Pieces
