pub mod CanonicalText
pub mod Document
pub mod Names
pub mod Nesting
pub mod Rising
pub mod SerdeData
pub mod WellFormed
pub mod formers
