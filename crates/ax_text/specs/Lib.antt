pub mod OfJson
pub mod Places
pub mod Reading
pub mod TreeOf
