pub mod RowKeys
pub mod Marks
pub mod Pages
pub mod Joined
pub mod LeastRows
