mod Adding
mod AnyOrder
mod CountLaws
mod Differences
mod Distinct
mod EachOffered
mod Nowhere
mod Passing
mod PathNumbers
mod Rising
mod SameCounts
pub mod Sequences
mod Telling
pub mod TermLists
mod TermSets
