pub mod Counting
mod IdTerms
pub mod Just
pub mod SameCandidates
