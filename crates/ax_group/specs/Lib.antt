pub mod Keys
pub mod States
pub mod Sums
pub mod Tallies
pub mod Walks
