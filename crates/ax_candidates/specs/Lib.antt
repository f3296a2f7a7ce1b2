pub mod Candidates
pub mod Meeting
pub mod Points
