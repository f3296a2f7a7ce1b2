pub mod Documents
pub mod Stepping
pub mod Telling
pub mod Refusing
pub mod Parts
pub mod Backward
pub mod Spoiled
pub mod Rising
