pub mod KeptApart
pub mod Shown
pub mod Under
pub mod Writing
pub mod OneContainer
pub mod ReadableWrites
pub mod InGrammar
