pub mod Judging
pub mod SystemCalls
pub mod Faults
pub mod Lines
pub mod Content
pub mod Marks
pub mod CountedFiles
pub mod FileDisk
