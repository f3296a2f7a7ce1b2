pub mod Fitting
pub mod OneText
pub mod SerdeLemmas
pub mod WholeNumbers
