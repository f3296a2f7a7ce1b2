pub mod ByPaths
pub mod Combining
pub mod Ordered
pub mod Taken
pub mod Terms
pub mod Usable
