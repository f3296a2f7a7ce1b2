pub mod Blocks
pub mod Members
pub mod Nested
pub mod Numerals
pub mod Roles
pub mod Scalars
pub mod Skipping
pub mod Walks
