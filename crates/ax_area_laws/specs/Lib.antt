pub mod Agree
pub mod Risen
