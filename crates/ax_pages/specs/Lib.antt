pub mod Area
pub mod Contents
pub mod AfterPart
pub mod TermPages
pub mod Leads
pub mod ContentsCode
pub mod laws
