pub mod Parts
pub mod Settings
pub mod Moving
pub mod Steps
pub mod Gathering
pub mod Merges
