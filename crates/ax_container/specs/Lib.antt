pub mod Container
pub mod ContainerCode
pub mod Writes
pub mod Reindexing
