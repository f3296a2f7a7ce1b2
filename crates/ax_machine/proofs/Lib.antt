mod Orders
pub mod Runs
mod Soundness
