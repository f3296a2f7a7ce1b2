pub mod Index
pub mod PagePairs
pub mod PairSets
pub mod TermParts
