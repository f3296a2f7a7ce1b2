pub mod Bases
pub mod ByForms
pub mod LastNames
pub mod InOrder
pub mod Pairs
pub mod SameValues
pub mod Wholes
pub mod Uses
