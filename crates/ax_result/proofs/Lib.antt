pub mod Distinct
pub mod GroupRows
pub mod Sorted
pub mod Tuples
pub mod Wholes
