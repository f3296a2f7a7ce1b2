pub mod Opened
pub mod Placing
pub mod Meeting
pub mod Refusing
pub mod Working
pub mod Recaching
