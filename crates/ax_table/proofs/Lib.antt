pub mod Counting
pub mod Agreeing
mod NormalShape
mod PolicyTexts
mod ReadsLaws
mod Fitting
mod Passing
mod TableLaws
mod Telling
mod Answering
