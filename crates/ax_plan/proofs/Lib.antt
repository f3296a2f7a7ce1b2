mod Apart
mod Combined
mod OneLeaf
pub mod OneList
mod OwnTerms
pub mod Passing
mod SharedRanges
mod Unions
