pub mod Readers
pub mod Loops
pub mod Tokens
pub mod InLetters
pub mod Words
pub mod WordLaws
pub mod Numbers
