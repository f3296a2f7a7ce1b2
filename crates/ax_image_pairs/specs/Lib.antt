pub mod Pairs
pub mod Indexed
pub mod Carrying
pub mod Found
