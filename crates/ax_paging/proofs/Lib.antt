pub mod KeyOrder
pub mod Behind
pub mod Splits
pub mod Joining
pub mod NextMarks
pub mod Ending
pub mod LeastPage
