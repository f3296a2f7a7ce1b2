pub mod Changes
pub mod ChangeList
pub mod Merge
pub mod Pass
pub mod Payload
pub mod Reading
pub mod Said
pub mod View
