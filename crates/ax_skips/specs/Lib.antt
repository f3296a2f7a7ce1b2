pub mod Skips
pub mod Candidates
pub mod Planned
pub mod Chosen
pub mod Held
