pub mod Comparisons
pub mod Conjunctions
pub mod Paths
pub mod PlainNames
pub mod Rows
pub mod Signs
