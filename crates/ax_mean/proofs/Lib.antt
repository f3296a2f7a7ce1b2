pub mod AggregateParts
pub mod ByParts
pub mod OneValue
pub mod SameTrees
