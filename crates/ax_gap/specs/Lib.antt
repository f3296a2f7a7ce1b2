pub mod Cursor
pub mod Gaps
pub mod Remaining
pub mod Reading
pub mod Varint
