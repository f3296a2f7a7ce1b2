pub mod Chains
pub mod Puts
pub mod Rising
pub mod Searching
