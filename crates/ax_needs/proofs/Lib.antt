mod Deciding
mod Fronts
pub mod Lists
mod ReadRules
pub mod Terms
pub mod Unions
pub mod Usable
