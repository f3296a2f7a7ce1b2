pub mod Hash
pub mod Table
