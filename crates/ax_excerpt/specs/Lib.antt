pub mod Enough
pub mod Excerpts
pub mod Needs
pub mod Openings
pub mod Plain
pub mod ShownDocuments
pub mod Uses
