pub mod Callees
pub mod Levels
pub mod Marks
pub mod Params
pub mod Reads
pub mod Said
pub mod Views
