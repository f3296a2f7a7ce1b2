pub mod AtPlace
pub mod Places
pub mod Putting
