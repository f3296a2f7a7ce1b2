pub mod TokenBytes
pub mod Reading
pub mod Words
