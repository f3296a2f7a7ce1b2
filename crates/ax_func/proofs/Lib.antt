pub mod Characters
pub mod LikeLemmas
pub mod Pairwise
pub mod Pieces
pub mod PlaceLemmas
