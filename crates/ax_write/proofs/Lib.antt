pub mod Calls
pub mod FoundNumbers
pub mod Idling
pub mod Meeting
pub mod Passing
pub mod PartsSaid
mod PagesAlone
mod PutReadable
pub mod Planned
pub mod StayReadable
pub mod Committing
pub mod Holding
pub mod ShortTerms
pub mod ShortExchanges
pub mod Saying
pub mod Fronts
mod Unspoiled
pub mod Writing
mod Numbered
mod Owned
mod Fullness
mod Tables
mod KeptPolicies
mod Smallness
mod Learning
