pub mod Image
pub mod Pending
pub mod Moments
pub mod Calls
pub mod Stays
