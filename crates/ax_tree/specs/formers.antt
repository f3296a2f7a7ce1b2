pub mod items
pub mod members
