pub mod IndexLimits
pub mod ShortNames
pub mod Storable
pub mod StoredTexts
