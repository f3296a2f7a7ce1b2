pub mod Gathering
pub mod Grouping
pub mod Written
