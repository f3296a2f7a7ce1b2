pub mod Needs
pub mod Read
