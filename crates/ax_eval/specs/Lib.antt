pub mod Bindings
pub mod Places
pub mod Truths
