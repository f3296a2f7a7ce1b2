pub mod Needs
pub mod Querying
pub mod Reply
pub mod ReplyTexts
pub mod Run
pub mod Step
