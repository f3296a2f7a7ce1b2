pub mod Appends
pub mod Calls
pub mod Adapter
