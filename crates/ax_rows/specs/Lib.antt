pub mod ByteOrder
pub mod Collected
pub mod Front
pub mod KeyOrder
pub mod Least
pub mod SortKeys
pub mod Taking
