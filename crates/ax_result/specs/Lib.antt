pub mod Answers
pub mod Groups
pub mod Sorting
pub mod Totals
