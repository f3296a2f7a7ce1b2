pub mod Borrowed
pub mod View
