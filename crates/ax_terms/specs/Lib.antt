pub mod Adding
pub mod Bytes
pub mod Counting
pub mod Counts
pub mod Differing
pub mod Leaves
pub mod SameLeaves
pub mod TermsOf
