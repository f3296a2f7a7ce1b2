pub mod Changing
pub mod Putting
pub mod Reading
