pub mod Answers
pub mod Asked
pub mod Bodies
pub mod Causes
pub mod Lines
pub mod Refusals
pub mod ScriptLines
