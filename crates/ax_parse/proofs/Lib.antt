pub mod At
pub mod Given
pub mod Levels
pub mod Names
pub mod Seen
pub mod Turning
pub mod Whole
pub mod Words
