mod FineBodies
mod FineTrees
mod Ids
mod LastCounts
mod Newlines
pub mod Splits
mod Written
