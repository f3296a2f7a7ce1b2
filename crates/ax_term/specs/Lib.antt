pub mod CutTexts
pub mod CutValues
pub mod Fitting
pub mod Ranges
pub mod TermBytes
pub mod TermOrder
pub mod Terms
