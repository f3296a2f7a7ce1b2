pub mod Parts
pub mod TextAnswers
